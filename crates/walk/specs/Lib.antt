pub mod Runs
pub mod Forms
pub mod Tables
pub mod Spans
pub mod Parts
pub mod Addresses
