pub mod Answers
pub mod Told
pub mod Values
pub mod Earlies
pub mod Settleds
