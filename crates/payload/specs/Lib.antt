pub mod Sections
pub mod Payload
pub mod Bits
pub mod Loops
