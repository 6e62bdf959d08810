pub mod Promise
pub mod Kept
pub mod Made
pub mod Groups
pub mod Refusals
pub mod Demands
