pub mod Taking
pub mod Left
