pub mod Rolls
pub mod Oldest
pub mod Adds
pub mod Ahead
pub mod Drops
pub mod Turns
pub mod Again
