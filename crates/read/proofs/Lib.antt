-- Laws that the proofs cite. Made: the test that a payload makes a grid; Settled: what meets the promise, case by case; Once: the equation
-- alone meets it; Builds: reading and calls of build; Answers: the code's ways to an answer; Parts: the sections as parts of the payload;
-- Channels: what is read of one channel; Turns: what the turns of the schedule need and leave.
mod Made
mod Settled
pub mod Once
pub mod Builds
mod Answers
mod Parts
mod Channels
mod Turns
