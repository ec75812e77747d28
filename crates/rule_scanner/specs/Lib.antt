pub mod Symbols
pub mod Classes
pub mod Writing
pub mod Starred
pub mod Reading
pub mod Steps
pub mod Scanning
