pub mod Below
pub mod Decided
