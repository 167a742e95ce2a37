pub mod Over
pub mod Digits
pub mod DigitLaws
pub mod Overlaid
