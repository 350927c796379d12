pub mod Quads
pub mod Places
pub mod Steps
pub mod Halves
