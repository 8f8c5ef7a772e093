-- A world: what is known of links, clients and consumers, and what each event leaves of it.
pub mod Facts
pub mod Growing
pub mod BrokerEvents
pub mod Stops
pub mod Acting
pub mod ClientEvents
