pub mod Uses
pub mod Loaded
pub mod Theorems
