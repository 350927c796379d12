-- Laws that the proofs cite. For the crates above: EveryBit, the theorem of a payload's bits; Sections, where each section starts and how the code computes them;
-- Refusals, what 10, 11 and 12 say; Lengths, the users in turn, and the most bits of a user.
mod Sums
pub mod Sections
mod Units
mod Bearers
pub mod EveryBit
pub mod Refusals
pub mod Lengths
mod Spare
