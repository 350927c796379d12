-- Laws that the proofs cite.
mod Differing
