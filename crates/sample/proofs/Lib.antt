pub mod Table
pub mod Squares
pub mod Cases
pub mod Bounds
pub mod Nearness
pub mod Answers
pub mod Elements
pub mod Readings
