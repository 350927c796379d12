-- Laws of what a subframe sends. For the crates above: Bytes (the grid's bytes by element), Owned (an owner's bytes by its elements),
-- Occurs (numbers of symbols), OwnerBits (an owner's bits and its symbols), Acknowledged (what an accepted plan's HIs meet),
-- TwoBuilds (theorem C).
pub mod Bytes
pub mod Owned
pub mod Occurs
pub mod OwnerBits
pub mod FixedBuilds
pub mod DataBuilds
pub mod Acknowledged
pub mod UnitBuilds
pub mod TwoBuilds
