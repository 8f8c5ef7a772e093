pub mod Starts
pub mod Lines
pub mod Observing
pub mod Sizes
pub mod Findings
