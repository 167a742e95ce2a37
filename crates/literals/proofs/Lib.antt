pub mod Inside
pub mod Successions
