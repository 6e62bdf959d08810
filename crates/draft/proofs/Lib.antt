pub mod Cores
pub mod Operands
pub mod Rows
pub mod Whole
pub mod Effects
pub mod Places
pub mod Agreement
pub mod Battles
