pub mod Inner
pub mod Checks
