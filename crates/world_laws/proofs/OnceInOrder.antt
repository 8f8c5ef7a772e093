-- Once and in order.
pub mod Members
pub mod Appends
pub mod Fresh
pub mod Once
