pub mod Pairs
pub mod Places
pub mod Quads
pub mod Given
pub mod Elements
