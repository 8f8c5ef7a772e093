-- How far a topic has come with the entries of another cluster: by how many entries of both were gone over.
use Rattle.std.specs.Prelude.{◌≡◌, ℕ, ◌<◌, ◌≤◌, true, List, [], length, take, filter, Some, slice_get, slice_index_or}
use Rattle.std.specs.List.{All}
use Rattle.geo_base.specs.declared.entry.Entry.{Entry}
use Rattle.geo_base.specs.Entry.{is_outbound}
use Rattle.geo_base.specs.Laws.{of_origin, outbound}
use Rattle.geo_base.specs.Mirror.{Mirror}
use Rattle.audit.specs.Covers.{entries_of}
use Rattle.audit.specs.declared.brought.Route.{Route}

-- on a way from another cluster, whose topic has the number there: how many entries here were gone over, and how many there
pub record BroughtHere : Type 0 where
  pub route : Route
  pub seen : ℕ
  pub passed : ℕ

-- Among the first `seen` entries here are as many of the other cluster as go here among the first `passed` there
pub record AreBrought (here there : List Entry) (b : BroughtHere) : Type 0 where
  pub seen_within : b.seen ≤ length here
  pub passed_within : b.passed ≤ length there
  pub as_many : length (outbound b.route.origin b.route.own (take b.passed there)) ≡ length (of_origin b.route.origin (take b.seen here))

-- the first from index k on that goes there stands at index i; or none does
pub record IsFirstFrom (r : Route) (es : List Entry) (k i : ℕ) : Type 0 where
  pub within : i < length es
  pub none_before : length (outbound r.origin r.own (take i es)) ≡ length (outbound r.origin r.own (take k es))
  pub goes : (e : Entry) → slice_get es i ≡ Some e → is_outbound r.origin r.own e ≡ true

abbrev pub HasNoneFrom : Route → List Entry → ℕ → Type 0
HasNoneFrom r es k = length (outbound r.origin r.own es) ≡ length (outbound r.origin r.own (take k es))

-- those of one topic
abbrev pub AreBroughtTo : List Mirror → ℕ → List BroughtHere → Type 0
AreBroughtTo topics k bs = All (λ (b : BroughtHere). AreBrought (entries_of topics k) (entries_of topics b.route.there) b) bs

-- and of all
pub record AreAllBrought (topics : List Mirror) (lists : List (List BroughtHere)) : Type 0 where
  pub sized : length lists ≡ length topics
  pub each : (k : ℕ) → AreBroughtTo topics k (slice_index_or lists k [])

-- the way stands at a place of the list
pub record IsPlaceOf (r : Route) (bs : List BroughtHere) (k : ℕ) : Type 0 where
  pub within : k < length bs
  pub is : (d : BroughtHere) → (slice_index_or bs k d).route ≡ r
