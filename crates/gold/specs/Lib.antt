pub mod Sequence
pub mod Steps
pub mod Window
pub mod Wide
