pub mod BoundaryLaws
pub mod MessageLaws
pub mod MessageLawsStated
