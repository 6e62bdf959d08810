pub mod Digits
pub mod Adding
pub mod Lines
