pub mod Noting
pub mod Private
