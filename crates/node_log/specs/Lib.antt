pub mod Logs
pub mod Owning
pub mod Acts
pub mod Packing
pub mod Looking
pub mod Acting
