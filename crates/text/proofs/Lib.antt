pub mod Letters
pub mod Supplies
pub mod Digits
pub mod Back
pub mod Few
