pub mod Rules
pub mod Laying
pub mod Words
