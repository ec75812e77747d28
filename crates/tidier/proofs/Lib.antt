pub mod Fitness
pub mod Adding
pub mod Walked
pub mod Booked
pub mod Made
