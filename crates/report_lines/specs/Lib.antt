pub mod Printed
pub mod Spaced
pub mod Entries
pub mod Views
pub mod Tiers
