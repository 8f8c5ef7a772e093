-- Offers of a subscription that has acknowledged all tell the snapshot that stands.
pub mod Outs
pub mod Ascends
pub mod FoundAgain
pub mod OffersPass
pub mod LowRuns
pub mod OffersInRow
pub mod OffersLeave
pub mod Offered
pub mod Twins
pub mod OfferedOn
