-- Inner definitions: no promise of a public function and no demand reaches them.
pub mod Limits
pub mod Processes
pub mod Placing
