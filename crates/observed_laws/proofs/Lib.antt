-- Lists.
pub mod Beginnings
-- What stands at each moment of a run.
pub mod Moments
-- What is read of it, and each of the facts.
pub mod Seeing
pub mod Facts
pub mod Markers
pub mod NoAlarm
