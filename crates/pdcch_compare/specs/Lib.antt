pub mod Symbols
pub mod Quads
