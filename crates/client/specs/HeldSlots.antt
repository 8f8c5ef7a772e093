-- What a client holds, in the slots in which it came: what is acknowledged leaves an empty slot.
use Rattle.std.specs.Prelude.{◌≡◌, ℕ, ◌+◌, ◌*◌, ◌%◌, ◌^◌, ◌<◌, ◌≤◌, Bool, true, false, List, [], ◌∷◌, length, take, Option, Some, None, slice_index_or}
use Rattle.geo_base.specs.declared.client.Held.{Held}
use Rattle.geo_base.specs.declared.entry.Ident.{Ident}
use Rattle.geo_base.specs.declared.position.Position.{Position}
use Rattle.geo_base.specs.Entry.{same_ident}
use Rattle.geo_base.specs.Position.{position_le}
use Rattle.client.specs.declared.held.index.SlotKey.{SlotKey}
use Rattle.client.specs.SlotIndex.{has, same_key}

-- the messages, in order of receipt
abbrev pub held_in : List (Option Held) → List Held
held_in [] = []
held_in (None ∷ slots) = held_in slots
held_in (Some h ∷ slots) = h ∷ held_in slots

-- how many empty slots stand before the first message
abbrev pub empty_before : List (Option Held) → ℕ
empty_before [] = 0
empty_before (None ∷ slots) = empty_before slots + 1
empty_before (Some h ∷ slots) = 0

-- whether a slot has a message of an identity, or one that came under a position up to another one
abbrev pub is_of : Ident → Option Held → Bool
is_of i None = false
is_of i (Some h) = same_ident h.ident i

abbrev pub is_up_to : Position → Option Held → Bool
is_up_to p None = false
is_up_to p (Some h) = position_le h.position p

-- the first slot that has a message of an identity
pub record IsFirstOf (slots : List (Option Held)) (i : Ident) (slot : ℕ) : Type 0 where
  pub within : slot < length slots
  pub is_one : is_of i (slice_index_or slots slot None) ≡ true
  pub none_before : (j : ℕ) → j < slot → is_of i (slice_index_or slots j None) ≡ false

-- a checksum of an origin and a producer's name, by which their messages are looked for (own, with the prime of the 64-bit
-- Fowler-Noll-Vo hash): those of another stream may have it too
unfoldable pub stream_sum : ℕ → List ℕ → ℕ
stream_sum sum [] = sum
stream_sum sum (b ∷ bs) = stream_sum ((sum * 1099511628211 % 2 ^ 64 + b) % 2 ^ 64) bs

-- the two numbers under which a message is looked for by its identity, and by its position
abbrev pub ident_numbers : Ident → ℕ × ℕ
ident_numbers i = (stream_sum i.origin i.producer, i.seq)

abbrev pub position_numbers : Position → ℕ × ℕ
position_numbers p = (p.ledger, p.entry)

abbrev pub key_of : ℕ × ℕ → ℕ → SlotKey
key_of numbers slot = record { major = numbers.0; minor = numbers.1; slot = slot }

-- whether a slot's message is under a key
abbrev pub is_under : (Held → ℕ × ℕ) → Option Held → SlotKey → Bool
is_under numbers None k = false
is_under numbers (Some h) k = same_key (key_of (numbers h) k.slot) k

-- an index has the keys of all messages, and no other
pub record IsIndex (numbers : Held → ℕ × ℕ) (slots : List (Option Held)) (keys : List SlotKey) : Type 0 where
  pub at : (k : SlotKey) → has keys k ≡ is_under numbers (slice_index_or slots k.slot None) k

-- how many messages there are, where the first one stands, and the keys of both indexes: those of the first so many slots
pub record IsIndexed (slots : List (Option Held)) (held first indexed : ℕ) (by_ident by_position : List SlotKey) : Type 0 where
  pub count : held ≡ length (held_in slots)
  pub front : first ≡ empty_before slots
  pub within : indexed ≤ length slots
  pub idents : IsIndex (λ h. ident_numbers h.ident) (take indexed slots) by_ident
  pub positions : IsIndex (λ h. position_numbers h.position) (take indexed slots) by_position
