pub mod Lost
pub mod LossLaws
pub mod LostLines
