mod Borrowed
pub mod Lists
pub mod Numbers
pub mod Openings
pub mod OwnEvents
pub mod Packs
pub mod Looks
pub mod Finishing
pub mod Gets
pub mod ClientSeen
pub mod Doing
pub mod Outcomes
pub mod BrokerActs
pub mod ClientActs
