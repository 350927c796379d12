pub mod Packing
pub mod Gatherings
