pub mod Alike
pub mod Lasting
pub mod Summing
pub mod Turns
pub mod Going
pub mod Examples
