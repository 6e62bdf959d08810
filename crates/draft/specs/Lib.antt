pub mod Inner
pub mod Evaluation
pub mod Draft
pub mod Comparison
pub mod Departures
pub mod Agreement
