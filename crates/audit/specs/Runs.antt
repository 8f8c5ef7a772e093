-- Runs of entries that an acknowledgement may pass over: for each index, where the run begins that ends there.
use Rattle.std.specs.Prelude.{◌≡◌, ℕ, ◌+◌, ◌-◌, ◌<◌, ◌≤◌, ◌==◌, nat_le, Bool, false, not, if◌then◌else◌, List, length, Option, Some, None, slice_get, slice_index}
use Rattle.std.specs.List.{All, list_all}
use Rattle.cursor_acks.specs.Acks.{from_to}
use Rattle.geo_base.specs.declared.entry.Entry.{Entry}
use Rattle.geo_base.specs.Entry.{is_data}
use Rattle.geo_base.specs.Updating.{is_updated}
use Rattle.audit.specs.declared.runs.AckCause.{AckCause}
use Rattle.audit.specs.declared.runs.AckCause.TheVariants as passed

-- what passes over an entry: a marker's acknowledgement, or that of an update of a cluster
abbrev pub acked_by : AckCause → Entry → Bool
acked_by passed.Markers e = not (is_data e.content)
acked_by (passed.By y) e = is_updated y e

abbrev pub is_acked_at : AckCause → Option Entry → Bool
is_acked_at w None = false
is_acked_at w (Some e) = acked_by w e

abbrev pub all_acked_by : AckCause → List Entry → List ℕ → Bool
all_acked_by w es is = list_all (λ i. is_acked_at w (slice_get es i)) is

-- for each of the first so many indexes the least one from which on up to it all are passed over, or the next one
pub record RunStarts : Type 0 where
  pub what : AckCause
  pub starts : List ℕ

pub record AreRunsOf (es : List Entry) (r : RunStarts) : Type 0 where
  pub within : length r.starts ≤ length es
  pub bounded : (i : ℕ) → i < length r.starts → slice_index r.starts i ≤ i + 1
  pub least : (k i : ℕ) → k ≤ i → i < length r.starts → all_acked_by r.what es (from_to k i) ≡ nat_le (slice_index r.starts i) k

abbrev pub AreAllRunsOf : List Entry → List RunStarts → Type 0
AreAllRunsOf es rs = All (AreRunsOf es) rs

-- where the run begins that ends with one more entry
abbrev pub next_start : RunStarts → Entry → ℕ
next_start r e = if acked_by r.what e then (if length r.starts == 0 then 0 else slice_index r.starts (length r.starts - 1)) else length r.starts + 1
