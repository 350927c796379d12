-- Laws that the proofs cite.
mod Filling
