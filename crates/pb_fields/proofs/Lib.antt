pub mod Varints
pub mod ValueTexts
pub mod Fields
pub mod Pairs
pub mod Unique
pub mod Written
pub mod Messages
pub mod Nested
pub mod LastValues
pub mod Parts
pub mod Order
pub mod Takes
pub mod Fronts
pub mod Sizes
mod Short
pub mod Heads
pub mod Buffers
