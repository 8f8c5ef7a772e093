pub mod Found
pub mod Pairs
pub mod Ports
pub mod Sending
pub mod Simulated
pub mod Undoing
