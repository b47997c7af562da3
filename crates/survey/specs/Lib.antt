pub mod Greatest
pub mod Surveyed
pub mod OverStates
