pub mod Stores
pub mod Lines
pub mod Checks
pub mod Added
pub mod Examples
