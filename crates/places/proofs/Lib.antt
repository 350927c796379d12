-- Laws that the proofs cite. For the crates above: Numbers, Quads and Listing (places and indices of every owner, PCFICH and PHICH by
-- quads), Elements (their number), Inserted (the group left with a number), Halves (an owner's places in a half block).
pub mod Numbers
pub mod Quads
pub mod Channels
pub mod Listing
pub mod Elements
pub mod Inserted
mod Ways
pub mod Halves
