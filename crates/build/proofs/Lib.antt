-- Laws that the proofs cite. For the crates above: Answers (the ways to an answer, and its numbers), Apart (theorem C of two calls), Orders (the order of a table).
mod Turns
pub mod Answers
pub mod Apart
pub mod Orders
