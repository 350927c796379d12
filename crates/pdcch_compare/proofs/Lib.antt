-- Laws that the proofs cite. For the crates above: Places (the places of the block by the table of groups, and of the given elements); Pairs: a
-- quad's two pairs; Elements: quad after quad, and element after element; Whole: what the loops need, and the answer.
pub mod Places
pub mod Pairs
pub mod Elements
pub mod Whole
