pub mod Lasting
pub mod Passed
pub mod Given
pub mod Proved
pub mod Running
pub mod SameIds
pub mod AgainTraced
pub mod TracedRuns
pub mod Behind
pub mod Passing
pub mod AgainSettling
pub mod Never
pub mod Getting
pub mod GotLines
mod Example
-- Moving a consumer: what a backlog of 0 means.
pub mod DrainedGiven
-- What a snapshot covers; and what is known in each world that a run comes to.
pub mod Covers
-- An update is acted on by the time that it is acknowledged, so after a settling.
pub mod Acting
-- After a settling no snapshot is in the making, and one that is asked for then stands after the next.
pub mod Ending
-- There is room for each subscription that a script names.
pub mod Room
-- Offers of a subscription that has acknowledged all tell the snapshot that stands.
pub mod Offering
-- The procedure of a planned move.
pub mod Handover
