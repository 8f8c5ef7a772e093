pub mod Steps
pub mod StepsFold
