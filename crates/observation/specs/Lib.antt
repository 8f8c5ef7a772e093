pub mod Observed
pub mod Safe
pub mod Findings
pub mod Safety
