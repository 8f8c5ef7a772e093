-- Numbers and counts: what rises with events, and by how much.
pub mod Calm
pub mod Places
pub mod Bounds
pub mod Counts
pub mod Slow
pub mod Rising
pub mod OwnNumbers
pub mod MarkerRuns
