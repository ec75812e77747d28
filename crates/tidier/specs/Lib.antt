pub mod Laying
pub mod Tidies
