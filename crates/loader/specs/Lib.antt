pub mod Loading
pub mod Private
