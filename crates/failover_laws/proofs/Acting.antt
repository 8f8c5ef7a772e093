-- An update is acted on by the time that it is acknowledged, so after a settling.
pub mod Acking
pub mod ActingOn
pub mod LeftRuns
pub mod Named
pub mod Acted
pub mod RunOn
pub mod SwitchedOver
