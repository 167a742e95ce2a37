pub mod Loaded
pub mod Appending
pub mod Leaving
pub mod Emptied
pub mod Adding
pub mod Naming
pub mod Asked
