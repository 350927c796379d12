-- Laws that the proofs cite. For the crates above: UserElements, Shapes, UserSizes, AllUsers, AddUp, FixedCounts, KindCounts.
pub mod Logic
pub mod Signals
pub mod Halves
pub mod UserElements
pub mod Shapes
pub mod UserSizes
pub mod AllUsers
pub mod AddUp
pub mod Groups
pub mod FixedCounts
pub mod KindCounts
pub mod Ways
pub mod KindWays
