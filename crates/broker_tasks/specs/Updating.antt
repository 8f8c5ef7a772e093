-- How an update of another cluster becomes a write of a cursor here.
use Rattle.std.specs.Prelude.{ℕ, ◌+◌, false, List, [], ◌∷◌, Option, Some, None}
use Rattle.geo_base.specs.declared.entry.Entry.{Entry}
use Rattle.geo_base.specs.declared.position.Position.{Position}
use Rattle.geo_base.specs.Updating.{updated_indexes}
use Rattle.replicated_subs.specs.Alone.{alone}
use Rattle.broker_subs.specs.SubView.{SubView}
use Rattle.broker_subs.specs.declared.changing.SubChange.TheVariants as sub_change
use Rattle.broker_subs.specs.declared.writing.SubWrite.{SubWrite}
use Rattle.broker_subs.specs.declared.writing.SubWrite.TheVariants as sub_write
use Rattle.broker_state.specs.Plan.{PlanView, quiet_view}
use Rattle.broker_state.specs.declared.change.StateChange.TheVariants as state_change
use Rattle.broker_state.specs.declared.write.StateWrite.{StateWrite}
use Rattle.broker_state.specs.declared.write.StateWrite.TheVariants as state_write

abbrev pub listed : Option Position → List Position
listed None = []
listed (Some p) = p ∷ []

-- a cursor gains what an update of y acknowledges up to index j, with as many places as it takes
abbrev pub update_acks : List Entry → List ℕ → ℕ → ℕ → SubWrite
update_acks es cursor y j = sub_write.UpdateTo j y (alone cursor (updated_indexes y 0 (j + 1) es))

-- writes about the subscription at place k, after which nothing acknowledged is out or due
abbrev pub acked_view : ℕ → List StateWrite → PlanView
acked_view k ws = record (quiet_view k) { writes = ws; changes = state_change.Sub sub_change.Acked ∷ [] }

-- a subscription is created at Earliest, and its cursor is written
abbrev pub creating_writes : SubView → SubWrite → List StateWrite
creating_writes s w = state_write.Create s false ∷ state_write.Sub w ∷ []
