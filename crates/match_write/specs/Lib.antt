pub mod Inner
pub mod Writing
