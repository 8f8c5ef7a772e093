-- Entries that are read from their texts as they were.
use Rattle.std.specs.Prelude.{ℕ, ◌<◌, ◌^◌, List, length, IfSome}
use Rattle.std.specs.List.{AllByRecursion}
use Rattle.geo_base.specs.declared.entry.Entry.{Entry}
use Rattle.state_items.specs.EntryTexts.{AreShort, HasTexts}
use Rattle.state_items.specs.Told.{IsTold}
use Rattle.message_meta.specs.Known.{IsRest}
use Rattle.frame_values.specs.Texts.{marker_number}

-- What its texts say is the entry: what they leave out agrees with what they say. So it is of each entry that was read from bytes.
pub record IsTellable (names : List (List ℕ)) (own : ℕ) (e : Entry) : Type 0 where
  pub rest : IsRest e.meta.rest
  pub told : IsTold names own e

-- it has texts, too, and its numbers and lengths have their bytes
pub record IsReadable (names : List (List ℕ)) (own : ℕ) (e : Entry) : Type 0 where
  pub tellable : IsTellable names own e
  pub texts : HasTexts names own e
  pub short : AreShort names own e
  pub origin : e.ident.origin < 2 ^ 32
  pub seq : e.ident.seq < 2 ^ 64
  pub kind : IfSome (marker_number e.content) (λ k. k < 2 ^ 64)
  pub producer : length e.ident.producer < 2 ^ 32

abbrev pub AreTellable : List (List ℕ) → ℕ → List Entry → Type 0
AreTellable names own es = AllByRecursion (IsTellable names own) es

abbrev pub AreReadable : List (List ℕ) → ℕ → List Entry → Type 0
AreReadable names own es = AllByRecursion (IsReadable names own) es
