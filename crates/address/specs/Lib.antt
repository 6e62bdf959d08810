pub mod Inner
pub mod Rounding
