-- One subscription: what is out is out with the first of its consumers, where one is served, and was sent to it.
pub mod Subscriptions
-- The link to a client: what a broker sends on it.
pub mod Links
-- One client: what it does on its lines, what it gets, and what is in its list.
pub mod Clients
-- A world: what is known of links, clients and consumers, and what each event leaves of it.
pub mod Worlds
-- Runs: what is handed out so far, and the laws.
pub mod Runs
-- A subscription that is sought or deleted everywhere begins anew.
pub mod Fences
-- What is sent to one consumer rises.
pub mod Rising
