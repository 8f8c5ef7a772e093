-- A subscription that is sought or deleted everywhere begins anew.
pub mod Acked
pub mod Since
pub mod Kept
pub mod Fencing
pub mod Law
