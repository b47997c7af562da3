pub mod Entries
pub mod Tags
pub mod Fields
pub mod Sizes
pub mod Reading
pub mod Lists
pub mod Marks
