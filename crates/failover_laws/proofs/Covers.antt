-- What a snapshot covers; and what is known in each world that a run comes to.
pub mod Growing
pub mod Known
pub mod Covering
