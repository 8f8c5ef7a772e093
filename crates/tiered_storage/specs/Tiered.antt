-- A topic whose closed ledgers may stand in a tier: still the list of its entries.
use Rattle.std.specs.Prelude.{◌≡◌, ℕ, ◌<◌, ◌≤◌, ◌^◌, List, [], ◌∷◌, length, take, drop, Option, Some, None, IfSome, slice_get}
use Rattle.std.specs.List.{sum}
use Rattle.geo_base.specs.declared.entry.Entry.{Entry}
use Rattle.geo_base.specs.Topic.{next_position}
use Rattle.tiered_storage.specs.Readable.{AreReadable, AreTellable}
use Rattle.tiered_storage.specs.Texts.{ledger_text}
use Rattle.tiered_storage.specs.Kept.{Kept}
use Rattle.tiered_storage.specs.declared.part.Part.{Part}
use Rattle.tiered_storage.specs.declared.part.Part.TheVariants as part
use Rattle.tiered_storage.specs.declared.part.Recalled.{Recalled}
use Rattle.tiered_storage.specs.Ledgers.{entries_in}

-- The cluster that stores the topic, its ledgers' lengths and the number of the open one, what is here of each ledger, the ledger that
-- was read last from the tier, and the tier.
pub record Tiered (T : Type 0) : Type 0 where
  pub own : ℕ
  pub ledgers : List ℕ
  pub unclosed : ℕ
  pub parts : List Part
  pub recalled : Option Recalled
  pub tier : T

-- how many entries of a ledger are here
abbrev pub part_length : Part → ℕ
part_length (part.Here xs) = length xs
part_length part.Away = 0

-- all ledgers, each with its entries
abbrev pub all_here : List ℕ → List Entry → List Part
all_here [] es = []
all_here (l ∷ ls) es = part.Here (take l es) ∷ all_here ls (drop l es)

-- a topic of which nothing is offloaded; a ledger takes per entries
abbrev pub fresh : {T : Type 0} → ℕ → ℕ → List ℕ → List Entry → T → Tiered T
fresh own per ledgers es tier = record {
  own = own;
  ledgers = ledgers;
  unclosed = (next_position per ledgers).ledger;
  parts = all_here ledgers es;
  recalled = None;
  tier = tier;
}

-- the tier keeps the text of a ledger's entries, and they are read from it as they were
pub record IsKept (names : List (List ℕ)) (own : ℕ) (kept : Kept) (k : ℕ) (es : List Entry) : Type 0 where
  pub text : kept k ≡ Some (ledger_text names own es)
  pub readable : AreReadable names own es

-- a ledger's entries are here, or the tier keeps them
abbrev pub IsPart : List (List ℕ) → ℕ → Kept → ℕ → List Entry → Part → Type 0
IsPart names own kept k es (part.Here xs) = xs ≡ es
IsPart names own kept k es part.Away = IsKept names own kept k es

-- It is the list of these entries: the ledgers cut it, each part is its ledger, and so is the one that was read last. The names are
-- those of the clusters.
pub record Holds {T : Type 0} (names : List (List ℕ)) (kept : T → Kept) (es : List Entry) (t : Tiered T) : Type 0 where
  pub counted : sum t.ledgers ≡ length es
  pub few : length es < 2 ^ 64
  pub many : length t.parts ≡ length t.ledgers
  pub closed : t.unclosed ≤ length t.parts
  pub tellable : AreTellable names t.own es
  pub parts : (k : ℕ) (p : Part) → slice_get t.parts k ≡ Some p → IsPart names t.own (kept t.tier) k (entries_in t.ledgers es k) p
  pub recalled : IfSome t.recalled (λ r. r.entries ≡ entries_in t.ledgers es r.ledger)
