pub mod Answering
pub mod Events
pub mod Reading
pub mod Sending
pub mod Taking
