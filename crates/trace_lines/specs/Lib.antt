pub mod Names
pub mod Words
pub mod Ranges
pub mod Entries
pub mod Lines
pub mod Said
