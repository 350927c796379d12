pub mod Counts
pub mod Users
pub mod Shape
pub mod Kinds
