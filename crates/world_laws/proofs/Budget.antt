-- Settling ends, and within its budget.
pub mod Rounds
pub mod Tails
pub mod Weights
pub mod Counting
pub mod CacheSums
pub mod ReadWeights
pub mod TakeWeights
pub mod LinkWeights
pub mod Lowering
pub mod WeightBounds
pub mod InTime
