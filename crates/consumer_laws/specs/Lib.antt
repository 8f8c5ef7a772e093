pub mod Lines
pub mod Handed
pub mod InOrder
pub mod Got
pub mod Laws
pub mod Anew
pub mod Rising
