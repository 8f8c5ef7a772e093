-- The induction over runs, under the program's limits too, and what an event leaves alone.
pub mod Runs
pub mod Frames
pub mod Layers
pub mod Reaching
pub mod Short
pub mod LimitedRuns
