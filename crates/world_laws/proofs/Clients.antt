-- Clients: what their frames say, what a broker sends them, and what both links carry.
pub mod Consumers
pub mod CalmWalk
pub mod ClientSends
pub mod ClientLinks
pub mod Meeting
