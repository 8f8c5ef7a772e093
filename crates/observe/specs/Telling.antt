-- Where the first message stands that nobody dealt with.
use Rattle.std.specs.Prelude.{◌≡◌, ℕ, ◌+◌, ◌==◌, Bool, not, ◌&&◌, ◌||◌, if◌then◌else◌, List, [], ◌∷◌, Some}
use Rattle.std.specs.Map.{lookup}
use Rattle.std.specs.Str.{bytes_eq}
use Rattle.geo_base.specs.declared.entry.Entry.{Entry}
use Rattle.geo_base.specs.Entry.{meant_for}
use Rattle.geo_base.specs.Setup.{Setup}
use Rattle.observation.specs.Observed.{Observation, entries_seen, is_dealt_with}
use Rattle.observe.specs.declared.asked.Asked.{Asked}
use Rattle.observe.specs.Dealt.{LogsOf}

-- among some entries, i being the index of the first; the index after them where there is none
abbrev pub first_unsettled : Setup → Observation → (t a : ℕ) → List ℕ → ℕ → List Entry → ℕ
first_unsettled s o t a n i [] = i
first_unsettled s o t a n i (f ∷ fs) = if not (meant_for a f) || is_dealt_with s o t n f then first_unsettled s o t a n (i + 1) fs else i

abbrev pub is_asked : Asked → Asked → Bool
is_asked p q = ((p.origin == q.origin) && (p.of == q.of)) && bytes_eq p.sub q.sub

abbrev pub AskedRow : Type 0
AskedRow = Asked × ℕ

abbrev pub first_of : LogsOf → Asked → ℕ
first_of l q = first_unsettled l.setup l.observed l.topic q.origin q.sub 0 (entries_seen l.setup l.observed l.topic q.of)

-- the rows tell of each that was asked for where the first stands
pub record AreFirsts (l : LogsOf) (rows : List AskedRow) : Type 0 where
  pub at : (q : Asked) (i : ℕ) → lookup (is_asked q) rows ≡ Some i → i ≡ first_of l q
