-- The next entry of an origin, and the next message that two clusters could have, from an index on.
use Rattle.std.specs.Prelude.{◌≡◌, ℕ, ◌+◌, ◌<◌, Bool, not, ◌&&◌, ◌||◌, List, [], ◌∷◌, drop, filter, length, Some, slice_get, slice_index_or}
use Rattle.geo_base.specs.Cursor.{has}
use Rattle.geo_base.specs.Entry.{is_outbound}
use Rattle.geo_base.specs.declared.entry.Entry.{Entry}
use Rattle.geo_base.specs.Laws.{of_origin}
use Rattle.observation.specs.declared.finding.Finding.{Finding}
use Rattle.observation.specs.declared.finding.Finding.TheVariants as finding
use Rattle.observation.specs.Findings.{Placed, parted, placed_from, stands_in}
use Rattle.observation.specs.Observed.{Seen}
use Rattle.observation.specs.Safe.{is_common}
use Rattle.observe.specs.declared.apart.Compared.{Compared}
use Rattle.observe.specs.declared.apart.Compared.TheVariants as compared
use Rattle.observe.specs.declared.apart.Pair.{Pair}

abbrev pub EntryIndex : Type 0
EntryIndex = ℕ

-- an entry that the cursor of the replicator to y has stands there, where it goes there
abbrev pub is_carried : (x y : ℕ) → (here there : Seen) → ℕ → Entry → Bool
is_carried x y here there i e = not (has (slice_index_or here.received y []) i && is_outbound x y e) || stands_in e there.topic.entries

pub record IsNextOf (y : ℕ) (es : List Entry) (from at : ℕ) : Type 0 where
  pub within : at < length es
  pub is : (e : Entry) → slice_get es at ≡ Some e → of_origin y (drop from es) ≡ e ∷ of_origin y (drop (at + 1) es)

-- of some entries, i being the index of the first, those that cluster z could have of y
abbrev pub common_from : (y z i : ℕ) → List Entry → List Placed
common_from y z i es = filter (λ (p : Placed). is_common y z p.entry) (placed_from i es)

pub record IsNextCommon (y z : ℕ) (es : List Entry) (from at : ℕ) : Type 0 where
  pub within : at < length es
  pub is : (e : Entry) → slice_get es at ≡ Some e → common_from y z from (drop from es) ≡ record { index = at; entry = e } ∷ common_from y z (at + 1) (drop (at + 1) es)

-- what is found once an entry at index i was compared, ps being those after it
abbrev pub after_compared : Pair → ℕ → List Entry → List Placed → Compared → List Finding
after_compared q i theirs ps compared.Ends = []
after_compared q i theirs ps (compared.Differs at) = finding.Apart q.topic q.origin q.cluster i q.other at ∷ []
after_compared q i theirs ps (compared.Agrees n) = parted q.topic q.origin q.cluster q.other ps (common_from q.origin q.cluster n (drop n theirs))
