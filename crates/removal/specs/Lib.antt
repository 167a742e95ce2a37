pub mod Removal
pub mod Filter
