pub mod Lines
pub mod RangeTexts
pub mod Gains
pub mod Keys
pub mod Tables
pub mod Steps
pub mod Seen
pub mod Apart
pub mod ItemsTold
pub mod Growing
pub mod Knowing
pub mod Rounds
mod Trace_one_snapshot
