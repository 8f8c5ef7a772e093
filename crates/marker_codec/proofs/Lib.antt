pub mod Exact
pub mod Meaning
pub mod Clusters
pub mod Written
pub mod Lengths
