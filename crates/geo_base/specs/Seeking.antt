-- seek: an operator sets a subscription's cursor to a position or to the end (Pulsar admin: reset-cursor; as an event of the
-- broker own). restart: a broker starts again.
use Rattle.std.specs.Prelude.{ℕ, List, [], ◌∷◌, length, Option, Some, None}
use Rattle.geo_base.specs.Types.{Position}
use Rattle.geo_base.specs.Types.change
use Rattle.geo_base.specs.Types.write
use Rattle.geo_base.specs.Broker.{Broker, Site, sub_named}
use Rattle.geo_base.specs.Plan.{Plan, idle_plan, plan_of, unless_found}
use Rattle.geo_base.specs.Storing.{cursor_write}
use Rattle.geo_base.specs.Topic.{index_of}

abbrev pub seek_index : Broker → Option Position → Option ℕ
seek_index b None = Some (length b.entries)
seek_index b (Some p) = index_of b.ledgers p

-- idle where the subscription is not here or the position is not stored. Other clusters learn of what was passed over by an
-- update alone
unfoldable pub seek : Site → Broker → List ℕ → Option Position → Plan
seek h b n to =
    unless_found idle_plan (sub_named b.subs n) (λ s.
    unless_found idle_plan (seek_index b to) (λ i.
    plan_of (cursor_write h b s (write.Seek s.name i)) (change.Cleared s.name ∷ []) []))

-- always enabled: a new ledger, also where the current one is empty (own), and nothing in memory
unfoldable pub restart : Plan
restart = plan_of (write.Ledger ∷ []) (change.Forget ∷ []) []
