-- What is in a frame and in a topic: sizes, plain entries, and what a node's bytes tell.
pub mod OwnSizes
pub mod Widths
pub mod NewEntries
pub mod OwnPlain
pub mod Sizing
pub mod Sending
pub mod ClientSends
pub mod Carrying
pub mod PlainRuns
pub mod NodeCarries
