pub mod Walks
pub mod Skips
pub mod Memos
pub mod Nodes
pub mod Lasting
pub mod Ends
pub mod Halves
pub mod Starting
