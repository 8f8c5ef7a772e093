pub mod Peers
pub mod Rows
pub mod Sending
pub mod Hand
