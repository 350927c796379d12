pub mod Build
pub mod Filling
