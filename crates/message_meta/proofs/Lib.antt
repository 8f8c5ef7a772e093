pub mod Meaning
pub mod Written
pub mod Joined
pub mod Usual
