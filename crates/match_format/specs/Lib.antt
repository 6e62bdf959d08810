pub mod Inner
pub mod Format
pub mod Faults
