pub mod Longest
pub mod Events
pub mod OneMore
pub mod Lists
pub mod Outputs
