pub mod BlockLaws
pub mod Fronts
pub mod Links
