pub mod Written
pub mod Chunks
pub mod Stored
pub mod Progress
pub mod Once
