pub mod Stepping
pub mod Descents
pub mod Visits
pub mod Recalls
pub mod Readables
pub mod Seeing
pub mod StatesRead
