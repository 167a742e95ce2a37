pub mod OutParameter
pub mod Boundary
pub mod BoundaryLaws
pub mod MessageLaws
pub mod StreamWords
pub mod StreamWordsLaws
