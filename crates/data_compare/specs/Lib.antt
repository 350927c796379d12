pub mod Symbols
pub mod Tests
pub mod Places
