pub mod Rules
pub mod Region
pub mod Owners
pub mod Query
pub mod Chain
