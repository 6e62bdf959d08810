pub mod Operands
pub mod Inner
