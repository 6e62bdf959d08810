pub mod Types
pub mod Opcode
pub mod Modifier
pub mod Mode
pub mod Defaults
