pub mod Order
pub mod First
pub mod Lawful
pub mod References
pub mod States
pub mod Reads
