pub mod Reading
pub mod Updating
pub mod Offering
pub mod Seeking
