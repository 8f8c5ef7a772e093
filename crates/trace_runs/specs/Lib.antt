pub mod Naming
pub mod Told
pub mod SnapshotTables
pub mod Ranges
pub mod Acts
pub mod Writes
pub mod Snapshots
pub mod Tracing
