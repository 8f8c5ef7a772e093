pub mod AlikeBytes
pub mod Plain
pub mod Tellings
pub mod Bare
pub mod Unread
pub mod Reading
pub mod OneMore
