pub mod Site
pub mod Replicators
pub mod Writes
pub mod Plan
pub mod Room
pub mod Fits
pub mod State
pub mod Parts
