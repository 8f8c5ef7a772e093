pub mod Tables
pub mod Sends
pub mod Hands
