pub mod Table
pub mod Metadata
pub mod Canonical
pub mod Known
pub mod Usual
