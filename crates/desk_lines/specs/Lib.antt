pub mod Dialogue
pub mod Bytes
pub mod Does
pub mod Longest
