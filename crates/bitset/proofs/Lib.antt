-- Laws that the proofs here and in the crates above cite.
pub mod Bits
pub mod Sets
