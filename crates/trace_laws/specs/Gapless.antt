-- What an audit promises that judges gaps: what a cluster has of another one is, entry by entry, a beginning of what that has for it.
use Rattle.std.specs.Prelude.{◌≡◌, ◌≢◌, ℕ, ◌<◌, true, List, [], ◌∷◌, ◌++◌, length, Some, slice_get, Ok}
use Rattle.std.specs.List.{AllByRecursion}
use Rattle.geo_base.specs.declared.entry.Entry.{Entry}
use Rattle.geo_base.specs.declared.event.Step.{Step}
use Rattle.geo_base.specs.Audit.{same_entry}
use Rattle.geo_base.specs.Laws.{of_origin, outbound}
use Rattle.geo_base.specs.Mirror.{Mirrors, mirror_at, opening_mirrors}
use Rattle.geo_base.specs.Run.{all_limits, run_under}
use Rattle.geo_base.specs.Scripted.{IsScripted}
use Rattle.geo_base.specs.Setup.{Setup}
use Rattle.geo_base.specs.TraceItems.{Item}
use Rattle.geo_base.specs.Traced.{traced}
use Rattle.audit.specs.Strict.{audited_by}
use Rattle.audit.specs.declared.strictness.Strictness.TheVariants as strictness
use Rattle.trace_laws.specs.Audited.{IsItemOf, all_told}
use Rattle.trace_laws.specs.Seen.{world_seen}

-- the entries of a list are, one by one, the first of another
abbrev pub AreFirstOf : List Entry → List Entry → Type 0
AreFirstOf es fs = (k : ℕ) (e : Entry) → slice_get es k ≡ Some e → (f : Entry) × (slice_get fs k ≡ Some f) × (same_entry e f ≡ true)

-- what cluster x has of what cluster z stored first is a beginning of what z has for x
abbrev pub IsGapless : Setup → Mirrors → Type 0
IsGapless s a = (t x z : ℕ) → x < length s.clusters → z < length s.clusters → z ≢ x
    → AreFirstOf (of_origin z (mirror_at s a t x).entries) (outbound z x (mirror_at s a t z).entries)

-- after each line of a trace that is accepted wholly
abbrev pub LawGapless : Type 0
LawGapless = (s : Setup) (before after : List Item) (a : Mirrors) → AllByRecursion (IsItemOf s) (before ++ after) → audited_by strictness.Whole s (before ++ after) ≡ Ok a
    → IsGapless s (all_told s (opening_mirrors s) before)

-- and so is the trace of a script's run within the limits, of every list of steps
abbrev pub LawTracedWhole : Type 0
LawTracedWhole = (s : Setup) → IsScripted s → (es : List Step) → audited_by strictness.Whole s (traced all_limits s es) ≡ Ok (world_seen (run_under all_limits s es).world)
