pub mod Step
pub mod Going
pub mod Taking
pub mod TakenOf
pub mod Rows
