pub mod Inputs
pub mod Spots
pub mod Memos
pub mod Carried
pub mod Views
