pub mod Tests
pub mod Listed
pub mod Parts
pub mod Pastes
pub mod Filled
