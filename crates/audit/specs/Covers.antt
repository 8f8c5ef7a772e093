-- What a snapshot's positions of another cluster need here, entry by entry of the other topic.
use Rattle.std.specs.Prelude.{◌≡◌, ℕ, ◌+◌, ◌-◌, ◌<◌, ◌≤◌, ◌==◌, nat_le, Bool, false, not, ◌&&◌, ◌||◌, if◌then◌else◌, List, [], length, take, slice_index, slice_index_or}
use Rattle.std.specs.List.{All, list_all, list_any}
use Rattle.geo_base.specs.declared.entry.Entry.{Entry}
use Rattle.geo_base.specs.Audit.{same_entry}
use Rattle.geo_base.specs.Entry.{is_data, meant_for}
use Rattle.geo_base.specs.Mirror.{Mirror, no_mirror}
use Rattle.audit.specs.declared.covers.Pair.{Pair}

-- an entry of another topic stands among the first n entries here, or need not stand at cluster x
abbrev pub is_covered_in : ℕ → List Entry → ℕ → Entry → Bool
is_covered_in x here n f = not (is_data f.content && meant_for x f) || list_any (same_entry f) (take n here)

-- for each of the first so many entries of the topic of number there how many entries here the entries up to it need
pub record NeededHere : Type 0 where
  pub own : ℕ
  pub there : ℕ
  pub needed : List ℕ

pub record AreNeeded (here there : List Entry) (c : NeededHere) : Type 0 where
  pub within : length c.needed ≤ length there
  pub bounded : (k : ℕ) → k < length c.needed → slice_index c.needed k ≤ length here
  pub least : (k n : ℕ) → k < length c.needed → list_all (is_covered_in c.own here n) (take (k + 1) there) ≡ nat_le (slice_index c.needed k) n

-- how many entries here one needs; none where it is missing
abbrev pub NeedsHere : ℕ → List Entry → Entry → ℕ → Type 0
NeedsHere x here f c = (c ≤ length here) × ((n : ℕ) → is_covered_in x here n f ≡ nat_le c n)

abbrev pub IsMissing : ℕ → List Entry → Entry → Type 0
IsMissing x here f = (n : ℕ) → is_covered_in x here n f ≡ false

abbrev pub entries_of : List Mirror → ℕ → List Entry
entries_of topics k = (slice_index_or topics k no_mirror).entries

-- those of one topic
abbrev pub AreCoversOf : List Mirror → ℕ → List NeededHere → Type 0
AreCoversOf topics k cs = All (λ (c : NeededHere). AreNeeded (entries_of topics k) (entries_of topics c.there) c) cs

-- and of all
pub record AreCovers (topics : List Mirror) (lists : List (List NeededHere)) : Type 0 where
  pub sized : length lists ≡ length topics
  pub each : (k : ℕ) → AreCoversOf topics k (slice_index_or lists k [])

-- how many entries here those so far need
abbrev pub last_needed : List ℕ → ℕ
last_needed needed = if length needed == 0 then 0 else slice_index needed (length needed - 1)

-- the pair stands at a place of the list
pub record IsPlaceFor (p : Pair) (cs : List NeededHere) (k : ℕ) : Type 0 where
  pub within : k < length cs
  pub is : (d : NeededHere) → ((slice_index_or cs k d).own ≡ p.own) × ((slice_index_or cs k d).there ≡ p.there)
