pub mod Name
pub mod InWords
pub mod NameLaws
