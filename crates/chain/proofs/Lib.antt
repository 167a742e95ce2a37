pub mod Sentence
pub mod Terminated
pub mod ChainLaws
pub mod ParseLaws
pub mod Rows
