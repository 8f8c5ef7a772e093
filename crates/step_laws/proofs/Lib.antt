pub mod Lines
pub mod Subs
pub mod Naming
pub mod Nodes
pub mod Kept
pub mod Events
pub mod Runs
pub mod Law
