pub mod Front
pub mod Bodies
pub mod Program
