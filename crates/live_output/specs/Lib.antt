pub mod Schedules
pub mod Lists
pub mod Playing
pub mod LiveRuns
