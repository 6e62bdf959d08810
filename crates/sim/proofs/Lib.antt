pub mod Refusals
pub mod FreshMachine
pub mod CellReading
