pub mod Bodies
pub mod Declared
pub mod Loops
pub mod Loaded
pub mod Back
pub mod One
pub mod Rows
pub mod Known
