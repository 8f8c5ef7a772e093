pub mod Subs
pub mod Counting
pub mod Walking
pub mod SeenNodes
pub mod Waiting
pub mod Crowding
