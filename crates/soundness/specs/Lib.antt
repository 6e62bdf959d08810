pub mod Bounds
pub mod Inner
