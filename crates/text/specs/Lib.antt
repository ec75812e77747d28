pub mod Words
pub mod Private
pub mod Decimals
