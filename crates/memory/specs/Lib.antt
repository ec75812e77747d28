pub mod Layout
pub mod Memory
pub mod Tables
pub mod Kept
pub mod Alike
pub mod Words
