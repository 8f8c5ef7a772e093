pub mod Cutting
pub mod Joining
mod Rows
pub mod Walks
