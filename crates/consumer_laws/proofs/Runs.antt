-- Runs: what is handed out so far, and the laws.
pub mod Acks
pub mod Events
pub mod FirstReceipts
pub mod Handed
pub mod Got
pub mod Law
pub mod StillHanded
