pub mod Keeps
pub mod Rooms
