pub mod Pss
pub mod Sss
pub mod Inner
