-- Laws that the proofs cite. For the crates above: Listing (the block's symbols and their places) and Entries (the entry of a group).
pub mod Listing
mod Taken
mod Starts
pub mod Entries
mod Blocks
mod Walk
mod Gaps
