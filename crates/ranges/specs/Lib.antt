pub mod Whole
pub mod Ranges
pub mod Sameness
