pub mod Limits
pub mod Within
pub mod Tables
pub mod OverStates
