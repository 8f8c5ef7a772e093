-- What may be written of a topic, once no rule refuses it.
use Rattle.std.specs.Prelude.{◌≡◌, ℕ, ◌<◌, ◌≤◌, true, List, length, None, slice_index_or}
use Rattle.geo_base.specs.Audit.{are_new, is_above}
use Rattle.geo_base.specs.Mirror.{Mirror, mirror_sub}
use Rattle.geo_base.specs.Topic.{accepts}
use Rattle.geo_base.specs.TraceItems.{Act, Acks, Appends, Creates, Deletes, Seeks}
use Rattle.audit.specs.declared.runs.AckCause.{AckCause}
use Rattle.audit.specs.Runs.{RunStarts}

abbrev pub MayAct : Mirror → Act → Type 0
MayAct m (Appends p e by) = (is_above m.positions p ≡ true) × (accepts m.entries e.ident ≡ true)
MayAct m (Creates n latest) = mirror_sub m n ≡ None
MayAct m (Deletes n) = Unit {0}
MayAct m (Acks n is c) = are_new m (mirror_sub m n) is ≡ true
MayAct m (Seeks n i) = i ≤ length m.entries

-- the runs for a cause stand at a place of the list
pub record IsRunsFor (what : AckCause) (rs : List RunStarts) (k : ℕ) : Type 0 where
  pub within : k < length rs
  pub is : (d : RunStarts) → (slice_index_or rs k d).what ≡ what
