pub mod Elements
pub mod Grid
pub mod TwoBuilds
