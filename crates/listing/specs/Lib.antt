pub mod Hashing
pub mod Listing
pub mod Linking
