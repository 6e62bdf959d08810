pub mod Cells
pub mod Rounds
pub mod Scans
pub mod Trusting
