pub mod Units
pub mod Refusal
pub mod Answer
pub mod Cases
pub mod Bound
pub mod Promise
