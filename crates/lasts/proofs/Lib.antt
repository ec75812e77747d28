pub mod Ticks
pub mod Stretch
pub mod Follows
pub mod Theorems
pub mod Witness
pub mod EitherWay
pub mod Loaded
