-- Subscriptions: nothing due is forgotten, and offers bring all of it out.
pub mod SubFrames
pub mod Remembers
pub mod Dispatched
pub mod Recalled
pub mod Keeping
pub mod DueCounts
pub mod Serving
pub mod Offered
