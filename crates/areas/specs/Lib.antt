pub mod Areas
pub mod Masks
pub mod Tables
pub mod Runs
