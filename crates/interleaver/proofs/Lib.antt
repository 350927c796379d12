-- Laws that the proofs cite. For the crates above: Undo (the interleaver and its inverse, with and without the shift) and Steps (loops over
-- a cursor).
mod Columns
pub mod Undo
mod Closed
mod Ways
pub mod Steps
mod Known
