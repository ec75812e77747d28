pub mod Recount
pub mod Renumbered
