pub mod Mapped
pub mod Markers
pub mod Named
pub mod Standing
