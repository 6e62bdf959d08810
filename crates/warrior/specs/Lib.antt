pub mod Inner
pub mod Tested
