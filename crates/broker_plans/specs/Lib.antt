pub mod Storable
pub mod Prepared
pub mod Updates
pub mod Usual
