pub mod State
pub mod Texts
pub mod Reading
pub mod Loading
pub mod Faults
pub mod Writing
pub mod Fitting
pub mod Known
