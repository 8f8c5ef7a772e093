-- Settled: only what is told is acknowledged, and updates name only that.
pub mod Passing
pub mod Told
pub mod OnlyTold
pub mod ServeTells
pub mod Announcing
pub mod NamesTold
pub mod QuietTells
pub mod TellingRuns
pub mod ToldRuns
pub mod ToldWorlds
pub mod ToldLaws
