-- The link to a client: what a broker sends on it.
pub mod Sending
