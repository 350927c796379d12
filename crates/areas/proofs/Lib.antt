-- Laws that the proofs cite. For the crates above: AreaOwners (an area's places and indices are its owner's, and it lies in the grid).
-- AreaPlaces: an area by rows and half blocks; Masks: six subcarriers as bits, and the centre's half blocks;
-- Tables: the tables of an area name its places; Runs: run after run, by these tables; Stretches: a run on one port, between holes.
pub mod AreaPlaces
pub mod AreaOwners
mod Made
pub mod Masks
pub mod Tables
pub mod Runs
pub mod Stretches
