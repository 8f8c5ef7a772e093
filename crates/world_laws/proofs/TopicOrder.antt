-- Positions, and the order between the topics of clusters.
pub mod Ledgers
pub mod NoSelf
pub mod Order
pub mod Added
pub mod Ordered
pub mod NextPosition
