pub mod Counted
pub mod Hashes
pub mod Pushes
pub mod Linked
