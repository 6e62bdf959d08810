pub mod Headers
pub mod Bytes
pub mod Keying
