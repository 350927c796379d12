-- Laws that the proofs cite. For the crates above: Reading, the bits that the units' first quads give; ReadingOwners, all of it under an
-- accepted plan.
mod Packing
pub mod Reading
pub mod ReadingOwners
