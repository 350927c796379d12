pub mod Source
pub mod Rounds
pub mod Filled
pub mod OnePort
pub mod Areas
