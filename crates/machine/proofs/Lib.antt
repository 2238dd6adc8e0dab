pub mod AnswerLaws
pub mod CensusLaws
pub mod Determined
