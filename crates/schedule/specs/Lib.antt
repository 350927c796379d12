pub mod Senders
pub mod Schedule
pub mod Cursor
