pub mod Words
pub mod LiveAnswers
