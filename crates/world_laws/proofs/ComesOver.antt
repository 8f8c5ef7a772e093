-- After settling all has come over.
pub mod Fitting
pub mod Awaited
pub mod Waiting
pub mod Live
pub mod LiveReplicator
pub mod Backs
pub mod LiveFrames
pub mod LiveRounds
pub mod LiveStarts
pub mod Quiet
pub mod FittingRuns
pub mod Complete
