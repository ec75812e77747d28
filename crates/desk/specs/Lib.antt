pub mod Kits
pub mod Counted
pub mod Private
pub mod Standing
pub mod Made
