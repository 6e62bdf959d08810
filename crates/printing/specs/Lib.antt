pub mod Inner
pub mod Text
