pub mod Events
pub mod Pendings
