pub mod Node
pub mod Events
pub mod Input
