pub mod Changes
pub mod Noted
pub mod Resting
pub mod Telling
pub mod Backlogs
pub mod Texts
pub mod Stops
pub mod Counting
