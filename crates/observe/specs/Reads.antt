-- What is read of a topic at a cluster.
use Rattle.std.specs.Prelude.{ℕ, ◌+◌, ◌*◌, Bool, true, false, List, [], ◌∷◌, ◌++◌, length, replicate, slice_set}
use Rattle.std.specs.List.{list_any}
use Rattle.std.specs.Str.{bytes_eq}
use Rattle.geo_base.specs.declared.entry.Entry.{Entry}
use Rattle.geo_base.specs.declared.position.Position.{Position}
use Rattle.geo_base.specs.Mirror.{MirrorSub, no_mirror}
use Rattle.geo_base.specs.Setup.{Setup}
use Rattle.observation.specs.Observed.{Observation, Seen}

-- of a topic at a cluster: it was read, and nothing stands there, beside so many clusters
abbrev pub empty_seen : ℕ → Seen
empty_seen n = record { is_read = true; topic = no_mirror; received = replicate n [] }

-- a subscription's cursor was read
abbrev pub has_cursor : List MirrorSub → List ℕ → Bool
has_cursor subs n = list_any (λ (v : MirrorSub). bytes_eq v.name n) subs

abbrev pub with_seen : Setup → Observation → (t x : ℕ) → Seen → Observation
with_seen s o t x v = record { topics = slice_set o.topics (t * length s.clusters + x) v; said = o.said; quiet = o.quiet }

abbrev pub with_entry : Seen → Position → Entry → Seen
with_entry v p e = record {
  is_read = v.is_read;
  topic = record { entries = v.topic.entries ++ e ∷ []; positions = v.topic.positions ++ p ∷ []; subs = v.topic.subs };
  received = v.received;
}

abbrev pub with_cursor : Seen → List ℕ → List ℕ → Seen
with_cursor v n set = record {
  is_read = v.is_read;
  topic = record { entries = v.topic.entries; positions = v.topic.positions; subs = v.topic.subs ++ record { name = n; cursor = set } ∷ [] };
  received = v.received;
}

abbrev pub with_received : Seen → ℕ → List ℕ → Seen
with_received v y set = record { is_read = v.is_read; topic = v.topic; received = slice_set v.received y set }

abbrev pub unread : Seen → Seen
unread v = record { is_read = false; topic = v.topic; received = v.received }
