-- Laws that the proofs cite. For the crates above: PairByPair and Pairs, the loops over PCFICH's and a unit's pairs; Sums, a unit's sums;
-- His, the HIs of a cell; Listings and Words, places and bits; ControlOwners, all of it under an accepted plan.
pub mod Listings
pub mod ListedPlaces
pub mod Pairs
pub mod Words
pub mod PairByPair
pub mod Sums
pub mod His
pub mod ControlOwners
