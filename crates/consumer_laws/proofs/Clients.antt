-- One client: what it does on its lines, what it gets, and what is in its list.
pub mod Going
pub mod Getting
pub mod GotLists
