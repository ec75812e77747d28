pub mod Ring
pub mod Private
pub mod Props
