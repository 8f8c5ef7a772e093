pub mod Passing
pub mod Walk
