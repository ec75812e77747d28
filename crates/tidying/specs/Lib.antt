pub mod Steps
pub mod Tidied
