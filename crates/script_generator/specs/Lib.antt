pub mod Starts
pub mod Apart
pub mod Scenario
pub mod Drawing
pub mod Schedule
pub mod Generated
