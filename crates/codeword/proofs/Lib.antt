pub mod Orders
pub mod Laws
pub mod Streams
pub mod Words
pub mod Taking
