pub mod Bytes
pub mod Quarters
pub mod Numbers
pub mod Axes
