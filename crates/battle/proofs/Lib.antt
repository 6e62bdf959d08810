pub mod Plays
pub mod Printing
pub mod Games
