pub mod Codewords
pub mod Streams
pub mod Bits48
