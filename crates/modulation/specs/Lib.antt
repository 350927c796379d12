pub mod Symbols
pub mod Demapping
pub mod Marks
