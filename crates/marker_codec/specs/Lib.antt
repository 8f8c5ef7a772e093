pub mod Table
pub mod Kinds
pub mod Markers
pub mod Canonical
pub mod Faults
pub mod Machine
pub mod Printed
