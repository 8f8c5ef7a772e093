pub mod Each
pub mod Names
pub mod Queues
pub mod Standing
