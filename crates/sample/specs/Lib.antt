pub mod Terminal
pub mod Shown
pub mod Names
