pub mod Checking
pub mod Held
pub mod Models
pub mod Asking
pub mod Loading
