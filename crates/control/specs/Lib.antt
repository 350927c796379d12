pub mod Control
pub mod Filling
pub mod Pairs
