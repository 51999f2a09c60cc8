pub mod Interleavings
pub mod Rooms
pub mod Senders
