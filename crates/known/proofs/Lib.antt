pub mod Known
pub mod Example
pub mod SixBlocks
pub mod Extended
