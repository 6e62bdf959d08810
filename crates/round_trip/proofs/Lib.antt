pub mod Back
pub mod Again
pub mod Accept
pub mod Calls
pub mod RoundTrip
