pub mod BytePackets
pub mod CutOff
pub mod Telling
pub mod Logs
