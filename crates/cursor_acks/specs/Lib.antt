pub mod Acks
pub mod Blocks
pub mod RangeIndexes
pub mod Ranges
