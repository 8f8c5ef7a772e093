-- Snapshots: answers, the second round, and the cut.
pub mod Answering
pub mod Positions
pub mod SnapshotFacts
pub mod Hearing
pub mod Everyone
pub mod Ids
pub mod Building
pub mod Making
pub mod MakingEvents
pub mod Asked
pub mod SecondRound
pub mod Completing
pub mod WrittenCuts
pub mod Grows
pub mod Caches
pub mod Cuts
