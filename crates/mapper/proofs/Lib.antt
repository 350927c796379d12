-- Laws that the proofs cite: the answers by cases, and that an i64 holds their numbers. EveryElement: the units and levels that occur.
-- BuiltElements: the sample call takes what build leaves.
mod Distinct
mod Numbers
mod Counting
mod Samples
mod Bounds
mod EveryElement
mod BuiltElements
