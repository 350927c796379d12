pub mod AreaBits
pub mod Words
pub mod SymbolBits
pub mod Gatherings
pub mod Places
pub mod Sections
