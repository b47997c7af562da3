pub mod Listed
pub mod Walk
pub mod Canonical
pub mod Mapped
