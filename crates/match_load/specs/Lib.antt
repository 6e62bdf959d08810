pub mod Inner
pub mod Loading
