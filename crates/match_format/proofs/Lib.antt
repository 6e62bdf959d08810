pub mod Parts
pub mod Numbers
pub mod Chains
pub mod Lines
pub mod Whole
pub mod Damaged
pub mod Format
