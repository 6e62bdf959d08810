pub mod Cells
pub mod Spread
pub mod Account
pub mod NeverNine
pub mod Endings
pub mod Examples
