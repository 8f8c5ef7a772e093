pub mod Crews
pub mod Linked
pub mod Opened
pub mod Rotation
pub mod Turns
