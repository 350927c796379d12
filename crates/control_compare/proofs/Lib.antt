-- Laws that the proofs cite.
mod AgainSums
