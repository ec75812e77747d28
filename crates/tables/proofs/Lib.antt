pub mod Joins
pub mod Puts
pub mod Reach
pub mod Sets
pub mod Fullest
pub mod Until
pub mod Asks
