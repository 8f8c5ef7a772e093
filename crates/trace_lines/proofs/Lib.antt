pub mod Apart
pub mod Begun
pub mod Fresh
pub mod Parts
pub mod Printable
pub mod SoFar
pub mod Told
