-- Laws that the proofs cite. For the crates above: Verdict, Earliest, Valid, Counts, ControlRegion, ControlElements, CommandLists, Entries, Reading, Answers, Refused. About lists alone: OneOf, Listed, Few.
pub mod OneOf
pub mod Listed
pub mod Few
pub mod Entries
pub mod Reading
pub mod CommandLists
pub mod ControlRegion
mod FieldLaws
mod CauseLaws
mod Kept
pub mod Verdict
mod OneCommand
mod Opening
pub mod Valid
pub mod Counts
pub mod ControlElements
mod Before
mod Phases
mod Clashes
pub mod Earliest
pub mod Known
pub mod Answers
pub mod Refused
