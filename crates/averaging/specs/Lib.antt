pub mod Averaged
