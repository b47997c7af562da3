pub mod Multiples
pub mod Quotients
pub mod Ceilings
pub mod Mixes
