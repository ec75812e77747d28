pub mod Flat
pub mod Lasting
