-- What is sent to one consumer rises.
pub mod Subs
pub mod Plans
pub mod Shapes
pub mod Links
pub mod Facts
pub mod Brokers
pub mod Nodes
pub mod Clients
pub mod Runs
