pub mod Chances
pub mod Fixing
pub mod Laying
pub mod Repeating
