pub mod Steps
pub mod Bytes
pub mod Answering
pub mod Longest
