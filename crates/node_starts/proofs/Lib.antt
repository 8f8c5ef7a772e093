pub mod Names
pub mod Known
