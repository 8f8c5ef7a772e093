-- What a write of a cursor leaves to be forgotten.
use Rattle.std.specs.Prelude.{◌≡◌, ℕ, ◌<◌, nat_le, Bool, true, false, not, ◌==◌, ◌||◌, if◌then◌else◌, List, length}
use Rattle.std.specs.List.{list_any}
use Rattle.geo_base.specs.declared.consumer.Unacked.{Unacked}
use Rattle.geo_base.specs.declared.frame.SubKind.{SubKind}
use Rattle.geo_base.specs.Cursor.{has}
use Rattle.dispatcher.specs.Dispatch.{Dispatch}
use Rattle.broker_subs.specs.declared.fresh.Fresh.{Fresh}
use Rattle.broker_subs.specs.declared.fresh.Fresh.TheVariants as fresh

-- what is told of an index that is out or due: whether it is acknowledged
abbrev pub agrees : Fresh → ℕ → Bool → Bool
agrees fresh.Nothing i b = not b
agrees (fresh.Each is) i b = if has is i then b else not b
agrees (fresh.To k) i b = if nat_le i k then b else not b
agrees fresh.Any i b = true

-- after a write that added some: more than one write is not kept apart
abbrev pub noted : Fresh → Fresh → Fresh
noted fresh.Nothing added = added
noted (fresh.Each is) added = fresh.Any
noted (fresh.To k) added = fresh.Any
noted fresh.Any added = fresh.Any

-- after an index came to be out or due again, which is acknowledged or not
abbrev pub held : Bool → Fresh → Fresh
held false fresh.Nothing = fresh.Nothing
held true fresh.Nothing = fresh.Any
held acked (fresh.Each is) = fresh.Any
held acked (fresh.To k) = fresh.Any
held acked fresh.Any = fresh.Any

-- an index that is out, or is due again
abbrev pub is_held : Dispatch → ℕ → Bool
is_held d i = list_any (λ (o : Unacked). o.index == i) d.out || has d.due i

-- the dispatcher is of the subscription's kind where it has consumers, and what is told of each index that is out or due is so
pub record SubHolds (kind : SubKind) (cursor : List ℕ) (d : Dispatch) (f : Fresh) : Type 0 where
  pub kinds : 0 < length d.consumers → d.kind ≡ kind
  pub told : (i : ℕ) → is_held d i ≡ true → agrees f i (has cursor i) ≡ true
