pub mod Faults
pub mod Source
pub mod Sink
pub mod Ends
pub mod Texts
