-- Runs that begin from what was kept of another one.
pub mod KeptIndexes
pub mod IndexRuns
pub mod Starting
pub mod TurnRuns
pub mod KeptStarts
pub mod AlikeLinks
pub mod AlikeWorlds
pub mod AlikeRuns
pub mod Loaded
pub mod ResumedRuns
pub mod SavedRuns
