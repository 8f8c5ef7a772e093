pub mod Held
pub mod Told
pub mod Asked
pub mod Places
pub mod Anew
