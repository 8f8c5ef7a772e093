-- What stands at a cluster or goes there is meant for it; marks; and what holds in one run.
pub mod Resident
pub mod Marked
pub mod EachRun
