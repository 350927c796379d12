pub mod Crs
