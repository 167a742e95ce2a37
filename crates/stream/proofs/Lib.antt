pub mod FirstHeader
pub mod Gathering
pub mod Passing
pub mod Writing
