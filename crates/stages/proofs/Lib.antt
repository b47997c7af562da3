pub mod Snoc
pub mod Averaged
pub mod Tables
pub mod Within
