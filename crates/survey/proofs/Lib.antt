pub mod Greatests
pub mod Levels
pub mod Visits
pub mod States
