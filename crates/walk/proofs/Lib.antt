pub mod Forms
pub mod Runs
pub mod Cursors
pub mod Spans
pub mod Parts
pub mod Pairs
pub mod Addresses
pub mod Singles
