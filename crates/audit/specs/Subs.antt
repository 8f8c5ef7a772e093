-- The subscriptions of a topic as an audit keeps them: in slots, of which each one that was deleted stays empty, and a table that
-- finds the slot of a name.
use Rattle.std.specs.Prelude.{◌≡◌, ℕ, ◌<◌, Bool, true, false, List, [], ◌∷◌, length, Option, Some, None, String, string_bytes, slice_index_or, slice_set}
use Rattle.std.specs.Map.{lookup}
use Rattle.std.specs.Option.{option_map}
use Rattle.std.specs.Str.{bytes_eq}
use Rattle.std.specs.declared.alloc.Global.{Global}
use Rattle.geo_base.specs.Mirror.{MirrorSub}

abbrev pub Slot : Type 0
Slot = Option MirrorSub

abbrev pub slot_at : List Slot → ℕ → Slot
slot_at slots k = slice_index_or slots k None

-- the subscriptions in their slots
abbrev pub held_subs : List Slot → List MirrorSub
held_subs [] = []
held_subs (None ∷ os) = held_subs os
held_subs (Some v ∷ os) = v ∷ held_subs os

-- a name, and the slot of the last subscription of that name
abbrev pub SlotRow : Type 0
SlotRow = String Global × ℕ

abbrev pub slot_in : List ℕ → List SlotRow → Option ℕ
slot_in n rows = lookup (λ (t : String Global). bytes_eq n (string_bytes t)) rows

-- the rows find each subscription by its name
pub record FindsSlots (rows : List SlotRow) (slots : List Slot) : Type 0 where
  pub at : (k : ℕ) (v : MirrorSub) → slot_at slots k ≡ Some v → slot_in v.name rows ≡ Some k

-- no subscription has the name
abbrev pub NoneNamed : List ℕ → List Slot → Type 0
NoneNamed n slots = (k : ℕ) (v : MirrorSub) → slot_at slots k ≡ Some v → bytes_eq v.name n ≡ false

-- one subscription has it, in this slot
pub record IsNamedIn (n : List ℕ) (slots : List Slot) (k : ℕ) : Type 0 where
  pub within : k < length slots
  pub sub : MirrorSub
  pub at : slot_at slots k ≡ Some sub
  pub named : bytes_eq sub.name n ≡ true
  pub only : (j : ℕ) (w : MirrorSub) → slot_at slots j ≡ Some w → bytes_eq w.name n ≡ true → j ≡ k

-- the subscription in a slot has another cursor
abbrev pub with_cursor_in : (List ℕ → List ℕ) → List Slot → ℕ → List Slot
with_cursor_in f slots k = slice_set slots k (option_map (λ (v : MirrorSub). record { name = v.name; cursor = f v.cursor }) (slot_at slots k))

-- whether a subscription of a name stands somewhere
abbrev pub is_named_at : List ℕ → Option Slot → Bool
is_named_at n None = false
is_named_at n (Some None) = false
is_named_at n (Some (Some v)) = bytes_eq v.name n
