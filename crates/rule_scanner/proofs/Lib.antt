mod Scanning
pub mod Passing
pub mod Back
pub mod Sound
pub mod Place
pub mod Ends
pub mod Theorems
