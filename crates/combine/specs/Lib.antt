pub mod Tables
pub mod Remembered
pub mod Working
