pub mod Frames
pub mod Values
