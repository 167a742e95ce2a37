pub mod Range
pub mod Wire
pub mod Answer
pub mod Outcome
pub mod Request
pub mod Blocked
pub mod Changed
pub mod Listed
