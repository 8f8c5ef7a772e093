-- The walk through the branches of every event, and the shapes that it finds.
pub mod Walk
pub mod Shapes
pub mod ServeWalk
pub mod LinkWalk
pub mod ReadWalk
pub mod OfferWalk
pub mod EventWalk
