-- The law that the proof of `grid_in` cites.
pub mod Largest
