pub mod Verdict
pub mod Private
