pub mod Applied
pub mod Changed
pub mod Durable
pub mod Parts
