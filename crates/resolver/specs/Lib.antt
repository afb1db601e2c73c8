pub mod Parts
pub mod PartLaw
pub mod PartExamples
pub mod Law
pub mod WorkedExamples
