-- Laws that the proofs cite. For the crates above: Known (the symbols of a grid that some payload makes). Elements: a grid by its elements;
-- Again, Areas: PBCH's and the users' symbols made again; Channels: each channel compared, turn after turn; Whole: the answer.
mod Elements
mod Again
mod Areas
mod Whole
pub mod Known
mod Channels
