-- Laws that the proofs cite. For the crates above: AreaSymbols (an area's places by their indices); Telling: bits that are 0; Numbers: the
-- tests of one element, of two and of a pair of places; Pairs, OnePort: runs of them; Holding: what all tests come to, for places in any order.
-- Areas: run after run; Whole: the area's answer.
pub mod AreaSymbols
pub mod Telling
pub mod Numbers
pub mod Pairs
pub mod OnePort
pub mod Holding
mod Areas
mod Whole
