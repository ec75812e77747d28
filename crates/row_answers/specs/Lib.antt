pub mod Told
pub mod Private
