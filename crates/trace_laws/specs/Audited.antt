-- What an audit promises: after each line of a trace that it accepts, what the lines so far make of topics and subscriptions is safe,
-- as `Safe` has it of the machine's world.
use Rattle.std.specs.Prelude.{◌≡◌, ℕ, ◌<◌, true, List, [], ◌∷◌, ◌++◌, length, Some, slice_get, Ok}
use Rattle.std.specs.List.{AllByRecursion}
use Rattle.geo_base.specs.declared.entry.Entry.{Entry}
use Rattle.geo_base.specs.Cursor.{has}
use Rattle.geo_base.specs.Entry.{is_data, same_stream}
use Rattle.geo_base.specs.Settled.{IsSettled, SettledSoFar}
use Rattle.geo_base.specs.Setup.{Setup}
use Rattle.geo_base.specs.TraceItems.{Act, Appends, Begins, Item, Writes}
use Rattle.geo_base.specs.Mirror.{Mirror, MirrorSub, Mirrors, mirror_at, opening_mirrors, told}
use Rattle.geo_base.specs.Audit.{audited, settled_from}

-- what all of some lines make
abbrev pub all_told : Setup → Mirrors → List Item → Mirrors
all_told s a [] = a
all_told s a (i ∷ is) = all_told s (told s a i) is

-- the numbers of a line are those of the setup, as they are of each line that is read
abbrev pub IsActOf : Setup → Act → Type 0
IsActOf s (Appends p e by) = e.ident.origin < length s.clusters
IsActOf s a = Unit {0}

abbrev pub IsItemOf : Setup → Item → Type 0
IsItemOf s (Begins n) = Unit {0}
IsItemOf s (Writes t x a) = (t < length s.topics) × (x < length s.clusters) × IsActOf s a

-- (a) of a subscription of topic t: each index in its cursor is that of a marker or of a settled message
abbrev pub OnlySettledIn : SettledSoFar → ℕ → Mirror → MirrorSub → Type 0
OnlySettledIn settled t m v = (i : ℕ) → has v.cursor i ≡ true → (e : Entry) × (slice_get m.entries i ≡ Some e) × (is_data e.content ≡ true → IsSettled settled t v.name e)

-- (b) of two entries of one origin and producer the earlier has the smaller sequence id
abbrev pub OnceInMirror : Mirror → Type 0
OnceInMirror m = (i j : ℕ) (e f : Entry) → i < j → slice_get m.entries i ≡ Some e → slice_get m.entries j ≡ Some f → same_stream e.ident f.ident ≡ true → e.ident.seq < f.ident.seq

pub record IsSafe (s : Setup) (a : Mirrors) (settled : SettledSoFar) : Type 0 where
  pub only : (t x k : ℕ) (v : MirrorSub) → t < length s.topics → x < length s.clusters → slice_get (mirror_at s a t x).subs k ≡ Some v → OnlySettledIn settled t (mirror_at s a t x) v
  pub once : (t x : ℕ) → t < length s.topics → x < length s.clusters → OnceInMirror (mirror_at s a t x)

abbrev pub LawAudited : Type 0
LawAudited = (s : Setup) (before after : List Item) (a : Mirrors) → AllByRecursion (IsItemOf s) (before ++ after) → audited s (before ++ after) ≡ Ok a
    → IsSafe s (all_told s (opening_mirrors s) before) (λ t n. settled_from s (opening_mirrors s) before t n)
