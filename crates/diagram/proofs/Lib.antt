pub mod Bits
pub mod Steps
pub mod Numbers
pub mod Firsts
