-- Lists of findings that are empty.
pub mod Empty
-- Where an entry stands.
pub mod Places
-- What came from another cluster.
pub mod Bringing
-- Rule by rule, and all of them.
pub mod Rules
pub mod Silent
