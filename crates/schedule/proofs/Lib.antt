-- Laws that the proofs cite. For the crates above: Turns, the channel of each turn and the cursor's steps; Owners, each turn's elements are
-- its owner's, so no element is sent in two turns; Covers, the elements of no turn are silent; Values, what each turn sends; TurnByTurn,
-- one turn after the other, for writing and comparing alike. SignalValues, ControlValues, DataValues: the values by channel; Slices: each
-- section as a part of the payload; Senders: a channel's elements are its owner's; Numbered: elements by their numbers; Some: one of several tests.
mod Starts
pub mod Some
pub mod Numbered
pub mod Senders
pub mod SignalValues
pub mod ControlValues
pub mod DataValues
pub mod Slices
pub mod Turns
pub mod Steps
pub mod Owners
pub mod Covers
pub mod Values
pub mod TurnByTurn
