pub mod Marking
pub mod Filtering
pub mod Removing
