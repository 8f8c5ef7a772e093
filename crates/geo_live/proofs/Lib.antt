pub mod Commands
pub mod Headline
pub mod Replaying
pub mod LiveAnswers
pub mod Inputs
