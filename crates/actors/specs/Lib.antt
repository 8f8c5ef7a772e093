pub mod Order
pub mod Drawing
pub mod Tries
pub mod Turns
pub mod Room
