pub mod Places
pub mod Named
pub mod Ends
pub mod Snapshots
pub mod Subs
pub mod Worlds
