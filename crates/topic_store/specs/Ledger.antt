-- What stands between the parts of a store that a broker keeps.
use Rattle.std.specs.Prelude.{◌≡◌, ℕ, ◌+◌, ◌≤◌, length, vec_len, vec_capacity}
use Rattle.std.specs.declared.vec.Vec.{Vec}
use Rattle.geo_base.specs.declared.entry.Entry.{Entry}
use Rattle.topic_store.specs.Firsts.{AreFirsts}
use Rattle.topic_store.specs.Messages.{CountMessages}

-- each list has room for so many more, the ledgers begin where they can, and the messages are counted
pub record LedgerHolds {Z : Type 0} (spare : ℕ) (entries : Vec Entry Z) (firsts messages : Vec ℕ Z) : Type 0 where
  pub in_entries : vec_len entries + spare ≤ vec_capacity entries
  pub in_firsts : vec_len firsts + spare ≤ vec_capacity firsts
  pub in_messages : vec_len messages + spare ≤ vec_capacity messages
  pub many : vec_len entries ≡ length entries.items
  pub begin : AreFirsts firsts.items (vec_len entries)
  pub counts : CountMessages entries.items messages.items
