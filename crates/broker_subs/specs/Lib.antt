pub mod SubView
pub mod Fresh
pub mod Steps
pub mod Table
