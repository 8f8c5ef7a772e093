pub mod Ledgers
pub mod Leaving
pub mod Shares
pub mod AnswerEntries
pub mod Loading
