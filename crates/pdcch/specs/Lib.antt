pub mod Groups
pub mod Walk
pub mod Block
