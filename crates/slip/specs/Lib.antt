pub mod Back
pub mod Says
pub mod TakenOut
pub mod Longest
