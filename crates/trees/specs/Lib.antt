pub mod Forest
pub mod Numbered
pub mod Building
pub mod Books
pub mod Putting
pub mod Walking
