pub mod Change
pub mod Empty
pub mod Held
