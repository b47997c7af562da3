pub mod Chain
pub mod Checked
pub mod Lawful
