pub mod Warrior
pub mod Loading
pub mod Sound
pub mod Matches
