pub mod EntryAcks
mod Steps
mod Following
mod Gains
mod HeldSubs
pub mod LastPlace
pub mod Needing
pub mod Bringing
mod Passing
pub mod SlotRows
pub mod Tables
pub mod Accepting
mod Judging
mod LineNumbers
mod LineSteps
mod Within
