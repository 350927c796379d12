pub mod Sent
pub mod Pairs
pub mod OnePort
pub mod Areas
