pub mod Summaries
pub mod Private
