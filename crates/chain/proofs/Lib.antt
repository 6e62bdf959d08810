pub mod Chaining
pub mod Evaluating
