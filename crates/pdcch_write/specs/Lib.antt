pub mod Quads
pub mod Filling
