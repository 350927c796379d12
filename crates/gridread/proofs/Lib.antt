-- The law that the proof of `payload_in` cites.
pub mod Longest
