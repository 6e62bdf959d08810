pub mod Offsets
pub mod Cells
pub mod Pointers
pub mod Operands
pub mod Closures
pub mod Registers
pub mod Arithmetic
pub mod Branches
pub mod Executions
pub mod Maps
pub mod Queues
pub mod Steps
pub mod Stepping
pub mod Bodies
pub mod Registering
pub mod Loading
pub mod Running
pub mod Without
pub mod Loops
pub mod Compared
pub mod Refinement
mod Example
mod Battles
