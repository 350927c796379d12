-- Laws that the proofs cite. For the crates above: Comparing (comparisons one beside another, and all bytes of a grid), PortWeights (the
-- bytes of places on their ports), Accumulating (comparing as an instance of what loops share).
pub mod Comparing
pub mod Accumulating
mod Nonzeros
mod Answers
mod Sending
pub mod PortWeights
