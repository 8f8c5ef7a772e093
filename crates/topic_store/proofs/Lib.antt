pub mod Counts
pub mod FirstIndexes
pub mod Found
pub mod Ledgers
pub mod Parts
pub mod Searched
pub mod Rebuilt
pub mod Tells
