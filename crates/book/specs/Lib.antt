pub mod Reading
pub mod Judging
pub mod Kinds
pub mod Strict
pub mod Loading
pub mod Placing
pub mod Private
pub mod Rows
