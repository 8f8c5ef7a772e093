-- There is room for each subscription that a script names.
pub mod Names
pub mod RoomRuns
