-- What is chosen of a topic's entries, and the table of where they stand.
pub mod Choosing
pub mod Placing
-- Lines that are appended one after another.
pub mod Each
pub mod Walks
pub mod Brokers
pub mod Ending
