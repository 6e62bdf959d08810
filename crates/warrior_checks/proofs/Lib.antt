pub mod Index
pub mod Warrior
pub mod Checking
