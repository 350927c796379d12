pub mod His
pub mod Spreading
pub mod Units
pub mod Recovery
pub mod Loops
