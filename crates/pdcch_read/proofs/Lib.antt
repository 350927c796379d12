-- Laws that the proofs cite: Bytes: a quad's byte; Elements: byte after byte, and element after element; Whole: the bits of the block.
mod Bytes
mod Elements
mod Whole
