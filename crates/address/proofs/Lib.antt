pub mod Pointing
pub mod Evaluation
