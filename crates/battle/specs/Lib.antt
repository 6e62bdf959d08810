pub mod Inner
pub mod Match
pub mod Text
