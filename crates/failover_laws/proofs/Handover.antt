-- The procedure of a planned move.
pub mod NoMessages
pub mod HandedOver
pub mod HandedOn
pub mod InRuns
mod Sharp
