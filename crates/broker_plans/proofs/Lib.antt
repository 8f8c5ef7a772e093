pub mod Packets
pub mod Places
pub mod Updates
pub mod Keeping
pub mod UsualMessages
