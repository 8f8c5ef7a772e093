pub mod Kept
pub mod Events
pub mod Standing
pub mod Reached
pub mod Saved
