-- The machine's offer, told by what a dispatcher chooses.
use Rattle.std.specs.Prelude.{[], ◌∷◌, slice_get}
use Rattle.dispatcher.specs.declared.offering.Choice.{Choice}
use Rattle.dispatcher.specs.declared.offering.Choice.TheVariants as does
use Rattle.geo_base.specs.declared.change.Change.TheVariants as change
use Rattle.geo_base.specs.declared.entry.Entry.{Entry}
use Rattle.geo_base.specs.Broker.{Broker, Site}
use Rattle.geo_base.specs.Dispatcher.{consumer_at, given, skipped_index}
use Rattle.geo_base.specs.Offering.{message, own_snapshot, skips_marker}
use Rattle.geo_base.specs.Plan.{Plan, idle_plan, plan_of, unless_found}
use Rattle.geo_base.specs.Subscription.{Subscription}

-- a message is sent to the consumer at the place; a marker is acknowledged on the cursor, with the snapshot that it brings
abbrev pub plan_of_choice : Site → Broker → Subscription → Choice → Plan
plan_of_choice h b s does.Idle = idle_plan
plan_of_choice h b s (does.Skip i) = unless_found idle_plan (slice_get b.entries i) (λ (e : Entry). skips_marker h b s i (own_snapshot h b s e.ident.origin e.content))
plan_of_choice h b s (does.Give i at) =
    unless_found idle_plan (slice_get b.entries i) (λ (e : Entry). plan_of [] (change.Given s.name i at ∷ []) (message h b i e (consumer_at s.consumers at)))

-- what the offer itself changes of the subscription; a marker's acknowledgement comes after it
abbrev pub offered : Choice → Subscription → Subscription
offered does.Idle s = s
offered (does.Skip i) s = skipped_index i s
offered (does.Give i at) s = given i at s
