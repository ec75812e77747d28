pub mod Kits
pub mod Writing
pub mod Counted
pub mod Standing
pub mod Holding
pub mod Theorems
pub mod Slips
