pub mod Calls
pub mod Sizes
