pub mod Read
pub mod Equation
pub mod Reading
