pub mod Models
pub mod Values
pub mod Passes
pub mod Draws
pub mod Histories
pub mod Lock
