pub mod Walks
pub mod Behind
pub mod Counting
pub mod Known
pub mod InRange
