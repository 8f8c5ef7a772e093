pub mod Names
pub mod Wholes
pub mod Added
pub mod Shown
pub mod Standing
pub mod Parts
pub mod Views
pub mod Moving
