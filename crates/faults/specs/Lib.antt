pub mod Figures
pub mod Tests
