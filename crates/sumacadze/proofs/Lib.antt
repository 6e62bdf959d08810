pub mod Numbers
pub mod Changed
pub mod Refused
