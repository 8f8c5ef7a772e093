-- The slots of what is out: those that are not empty are the table.
use Rattle.std.specs.Prelude.{ℕ, ◌+◌, ◌==◌, Bool, true, false, not, List, [], ◌∷◌, Option, Some, None, ◌≡◌}
use Rattle.geo_base.specs.declared.consumer.Unacked.{Unacked}
use Rattle.geo_base.specs.Ascending.{IsAscending}
use Rattle.geo_base.specs.Cursor.{has}
use Rattle.dispatcher.specs.declared.slot.Slot.{Slot}

abbrev pub slot_index : Slot → ℕ
slot_index s = s.index

-- what a slot adds to what is out after it
abbrev pub out_before : Option ℕ → ℕ → List Unacked → List Unacked
out_before None i os = os
out_before (Some c) i os = record { index = i; client = c } ∷ os

abbrev pub outs_of : List Slot → List Unacked
outs_of [] = []
outs_of (s ∷ ss) = out_before s.client s.index (outs_of ss)

-- how many slots are empty
abbrev pub emptiness : Option ℕ → ℕ
emptiness None = 1
emptiness (Some c) = 0

abbrev pub empties : List Slot → ℕ
empties [] = 0
empties (s ∷ ss) = emptiness s.client + empties ss

-- which slots stay
abbrev pub open_held : Option ℕ → Bool → Bool
open_held None b = false
open_held (Some c) b = b

abbrev pub other_held : ℕ → Option ℕ → Bool
other_held c None = false
other_held c (Some d) = not (d == c)

abbrev pub is_out : Slot → Bool
is_out s = open_held s.client true

abbrev pub is_open : List ℕ → Slot → Bool
is_open is s = open_held s.client (not (has is s.index))

abbrev pub is_with_other : ℕ → Slot → Bool
is_with_other c s = other_held c s.client

-- they ascend, and the empty ones are counted
pub record SlotsHold (slots : List Slot) (empty : ℕ) : Type 0 where
  pub ascending : IsAscending slot_index slots
  pub counted : empties slots ≡ empty
