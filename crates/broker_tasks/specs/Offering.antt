-- The parts of an offer.
use Rattle.std.specs.Prelude.{ℕ, List, [], ◌∷◌, ◌++◌, Option, Some, None}
use Rattle.geo_base.specs.declared.change.Change.TheVariants as change
use Rattle.geo_base.specs.declared.entry.Entry.{Entry}
use Rattle.geo_base.specs.declared.snapshot.CachedSnapshot.{CachedSnapshot}
use Rattle.geo_base.specs.Broker.{Broker, Site}
use Rattle.geo_base.specs.Cache.{cached}
use Rattle.geo_base.specs.Dispatcher.{consumer_at}
use Rattle.geo_base.specs.Offering.{message}
use Rattle.geo_base.specs.Plan.{Plan, plan_of}
use Rattle.geo_base.specs.Subscription.{Subscription}
use Rattle.broker_subs.specs.declared.changing.SubChange.TheVariants as sub_change
use Rattle.broker_subs.specs.declared.writing.SubWrite.{SubWrite}
use Rattle.broker_state.specs.declared.write.StateWrite.{StateWrite}
use Rattle.broker_plans.specs.Updates.{cursor_writes}
use Rattle.broker_state.specs.Plan.{PlanView, quiet_view}
use Rattle.geo_base.specs.declared.packet.WireOut.{WireOut}
use Rattle.broker_state.specs.declared.change.StateChange.{StateChange}
use Rattle.broker_state.specs.declared.change.StateChange.TheVariants as state_change

-- a message goes to the consumer at a place in the order
abbrev pub gives : Site → Broker → Subscription → ℕ → ℕ → Entry → Plan
gives h b s i at e = plan_of [] (change.Given s.name i at ∷ []) (message h b i e (consumer_at s.consumers at))

-- the event that gives an index to the consumer at a place in the order
abbrev pub given_view : ℕ → ℕ → ℕ → WireOut → PlanView
given_view k i at o = record (quiet_view k) { changes = state_change.Sub (sub_change.Given i at) ∷ []; sent = o ∷ [] }

-- the snapshots of a subscription once a marker brought one, if it did
abbrev pub cached_with : List CachedSnapshot → Option CachedSnapshot → List CachedSnapshot
cached_with cs None = cs
cached_with cs (Some c) = cached cs c

abbrev pub cache_changes : Option CachedSnapshot → List StateChange
cache_changes None = []
cache_changes (Some c) = state_change.Sub (sub_change.Cache c) ∷ []

-- the changes of an offer that catches up with a marker
abbrev pub catch_up_changes : Option CachedSnapshot → ℕ → List StateChange
catch_up_changes o i = cache_changes o ++ state_change.Sub (sub_change.Skipped i) ∷ state_change.Sub sub_change.Acked ∷ []

-- the event that writes the cursor of the subscription at a place, with an update that follows if one does, and then makes changes
abbrev pub writing_view : ℕ → SubWrite → Option StateWrite → List StateChange → PlanView
writing_view k w o cs = record (quiet_view k) { writes = cursor_writes w o; changes = cs }
