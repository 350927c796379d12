pub mod Triangles
pub mod Phases
pub mod Bits
pub mod Recurrence
pub mod Signals
pub mod Groups
