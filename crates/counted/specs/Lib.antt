pub mod Gridcount
pub mod Framing
