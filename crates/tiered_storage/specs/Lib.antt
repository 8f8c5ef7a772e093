pub mod Kept
pub mod Texts
pub mod Reading
pub mod Readable
pub mod Ledgers
pub mod Tiered
pub mod Calls
