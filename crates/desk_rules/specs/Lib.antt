pub mod Scans
pub mod Words
pub mod Rows
pub mod Desk
pub mod BookWords
