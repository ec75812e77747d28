pub mod Frames
pub mod Making
pub mod Sections
pub mod Theorems
