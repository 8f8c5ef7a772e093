-- After a settling no snapshot is in the making, and one that is asked for then stands after the next.
pub mod Pursuing
pub mod Became
pub mod ExactReads
pub mod Topics
pub mod Pursued
pub mod PursuedHalts
pub mod EndedRuns
pub mod Settling
pub mod Calm
pub mod Phase
pub mod PhaseGoesOn
pub mod SnapshotEnds
pub mod Snapped
