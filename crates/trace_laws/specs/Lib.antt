pub mod Audited
pub mod Seen
pub mod Readable
pub mod Gapless
