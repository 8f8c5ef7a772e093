pub mod Firsts
pub mod Ledger
pub mod Messages
pub mod Store
pub mod Table
