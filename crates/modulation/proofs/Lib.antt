pub mod Levels
pub mod Words
pub mod Places
pub mod Symbols
pub mod Constellation
pub mod Marks
pub mod Formulas
pub mod Orders
