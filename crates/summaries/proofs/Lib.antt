pub mod Appended
pub mod Counting
pub mod Stretches
pub mod Settles
pub mod Renumbered
pub mod Theorems
pub mod Examples
