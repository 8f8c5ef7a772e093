-- What a broker does with CommandAck: a consumer acknowledges each position that the command names, or, where one consumer
-- at a time is served, all up to the one that it names. Positions that are not stored are skipped.
use Rattle.std.specs.Prelude.{ℕ, ◌+◌, Bool, true, false, if◌then◌else◌, List, [], ◌∷◌, Option, Some, None}
use Rattle.geo_base.specs.Types.{AckKind, Position, SubKind}
use Rattle.geo_base.specs.Types.ack_kind
use Rattle.geo_base.specs.Types.change
use Rattle.geo_base.specs.Types.sub_kind
use Rattle.geo_base.specs.Types.write
use Rattle.geo_base.specs.Broker.{Broker, Site}
use Rattle.geo_base.specs.Cursor.{below}
use Rattle.geo_base.specs.Plan.{Plan, plan_of, quiet_plan}
use Rattle.geo_base.specs.Storing.{cursor_write}
use Rattle.geo_base.specs.Subscription.{Subscription}
use Rattle.geo_base.specs.Topic.{index_of}

abbrev pub with_stored : Option ℕ → List ℕ → List ℕ
with_stored None is = is
with_stored (Some i) is = i ∷ is

abbrev pub stored_indexes : List ℕ → List Position → List ℕ
stored_indexes ledgers [] = []
stored_indexes ledgers (p ∷ ps) = with_stored (index_of ledgers p) (stored_indexes ledgers ps)

abbrev pub up_to : Option ℕ → List ℕ
up_to None = []
up_to (Some i) = below (i + 1)

-- Pulsar manual: messages of a Shared or Key_Shared subscription are acknowledged one by one
abbrev pub allows_cumulative : SubKind → Bool
allows_cumulative sub_kind.Exclusive = true
allows_cumulative sub_kind.Failover = true
allows_cumulative sub_kind.Shared = false
allows_cumulative sub_kind.KeyShared = false

-- a cumulative acknowledgement names exactly one position
abbrev pub cumulative_indexes : List ℕ → List Position → List ℕ
cumulative_indexes ledgers [] = []
cumulative_indexes ledgers (p ∷ []) = up_to (index_of ledgers p)
cumulative_indexes ledgers (p ∷ q ∷ ps) = []

abbrev pub acked_indexes : List ℕ → SubKind → List Position → AckKind → List ℕ
acked_indexes ledgers kind ps ack_kind.Individual = stored_indexes ledgers ps
acked_indexes ledgers kind ps ack_kind.Cumulative = if allows_cumulative kind then cumulative_indexes ledgers ps else []

-- one cursor write for all of them, where there is one
abbrev pub acks : Site → Broker → Subscription → List ℕ → Plan
acks h b sub [] = quiet_plan []
acks h b sub (i ∷ is) = plan_of (cursor_write h b sub (write.Acks sub.name (i ∷ is))) (change.Acked sub.name ∷ []) []

abbrev pub serve_ack : Site → Broker → AckKind → List Position → Option Subscription → Plan
serve_ack h b kind ps None = quiet_plan []
serve_ack h b kind ps (Some sub) = acks h b sub (acked_indexes b.ledgers sub.kind ps kind)
