pub mod Spelled
pub mod Printed
pub mod Ranges
pub mod Putting
pub mod Walking
pub mod Booking
pub mod Theorems
