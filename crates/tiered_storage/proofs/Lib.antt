pub mod Back
pub mod Each
pub mod Loop
pub mod Cutting
pub mod Keeping
pub mod Standing
