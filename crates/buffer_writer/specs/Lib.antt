pub mod Buffer
pub mod Finish
