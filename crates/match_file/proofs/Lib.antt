pub mod Warriors
pub mod Values
pub mod Refusal
