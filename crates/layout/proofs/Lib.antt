-- Laws that the proofs cite. For the crates above: OneOwner (theorem A), Numbers (no two owners have one number), Asked (the owner query), Few
-- (ranges of an accepted plan), Pilot (slots and reference signals), Groups and Units (PCFICH's and PHICH's groups), GroupShape (the groups of
-- every control symbol), ControlRegion, Fixed and Partition
-- (owners by their rules), Lists.
pub mod Lists
pub mod Pilot
pub mod Groups
pub mod Units
pub mod Vacant
pub mod Region
pub mod Block
pub mod Few
pub mod GroupShape
pub mod ControlRegion
pub mod Fixed
pub mod Partition
mod Ways
mod VacantWays
pub mod OneOwner
pub mod Numbers
pub mod Asked
