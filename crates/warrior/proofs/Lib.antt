pub mod Bodies
pub mod Parts
pub mod Told
pub mod Placing
pub mod Starting
pub mod Testing
pub mod Occurring
