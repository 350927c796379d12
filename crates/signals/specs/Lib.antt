pub mod Signals
pub mod Rows
