pub mod HostCall
pub mod Outcome
pub mod OnWords
