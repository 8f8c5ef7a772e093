-- An update of another cluster (PIP-33): a subscription passes over what the update's cluster has passed over.
use Rattle.std.specs.Prelude.{ℕ, zero, suc, ◌+◌, Bool, true, false, not, ◌&&◌, ◌||◌, if◌then◌else◌, List, [], ◌∷◌, ◌++◌, Option, Some, None}
use Rattle.geo_base.specs.Types.{Change, ClusterPosition, Entry, Position, Write}
use Rattle.geo_base.specs.Types.change
use Rattle.geo_base.specs.Types.sub_kind
use Rattle.geo_base.specs.Types.write
use Rattle.geo_base.specs.Broker.{Broker, Site, sub_named}
use Rattle.geo_base.specs.Entry.{is_data, means_cluster, meant_for}
use Rattle.geo_base.specs.Name.{is_name}
use Rattle.geo_base.specs.Plan.{Plan, plan_of, unless_found}
use Rattle.geo_base.specs.Storing.{cursor_write}
use Rattle.geo_base.specs.Subscribing.{has_room}
use Rattle.geo_base.specs.Subscription.{Subscription, new_subscription}
use Rattle.geo_base.specs.Topic.{index_of}

-- what the replicator to y has read at index i is acknowledged on its cursor, after writes and changes of its own
abbrev pub handled : ℕ → ℕ → List Write → List Change → Plan
handled y i ws cs = plan_of (ws ++ write.ReplicatorAck y i ∷ []) (cs ++ change.ReadTo y (i + 1) ∷ []) []

-- the positions that a marker names for a cluster
abbrev pub positions_for : ℕ → List ClusterPosition → List Position
positions_for x [] = []
positions_for x (r ∷ rs) = if means_cluster x r.cluster then r.position ∷ positions_for x rs else positions_for x rs

-- the index of the one position that is named, where exactly one is named and it is stored
abbrev pub only_index : List ℕ → List Position → Option ℕ
only_index ledgers [] = None
only_index ledgers (p ∷ []) = index_of ledgers p
only_index ledgers (p ∷ q ∷ ps) = None

-- an update of y passes over markers and what y could have had, and nothing else (own: so that no message is passed over
-- that selective replication kept from y)
abbrev pub is_updated : ℕ → Entry → Bool
is_updated y e = not (is_data e.content) || meant_for y e

-- the indexes that it passes over among the first so many of the entries, the first of which has index i
abbrev pub updated_indexes : ℕ → ℕ → ℕ → List Entry → List ℕ
updated_indexes y i zero es = []
updated_indexes y i (suc more) [] = []
updated_indexes y i (suc more) (e ∷ es) = if is_updated y e then i ∷ updated_indexes y (i + 1) more es else updated_indexes y (i + 1) more es

-- one write of the cursor of a subscription of this name, which is created at Earliest, replicated and Exclusive where it is
-- missing; one that is here is not changed otherwise, and need not be marked replicated (own)
abbrev pub update_writes : Site → Broker → List ℕ → List ℕ → Option Subscription → List Write
update_writes h b n is None =
    write.Create n sub_kind.Exclusive true false ∷ cursor_write h b (new_subscription n sub_kind.Exclusive true []) (write.Acks n is)
update_writes h b n is (Some s) = cursor_write h b s (write.Acks n is)

-- an update of y at index i. It has no effect, but is acknowledged like every marker, unless it names exactly one position
-- for the own cluster and that is stored, and its name is a name of a subscription that is here or may be made (own, since
-- PIP-33 says nothing of such updates: of two positions none is better, one that is not stored here can't be passed, and no
-- update makes a subscription that a client could not make)
abbrev pub read_update : Site → Broker → ℕ → ℕ → List ℕ → List ClusterPosition → Plan
read_update h b y i n remote =
    unless_found (handled y i [] []) (only_index b.ledgers (positions_for h.own remote)) (λ j.
    if is_name n && has_room b n
    then handled y i (update_writes h b n (updated_indexes y 0 (j + 1) b.entries) (sub_named b.subs n)) (change.Acked n ∷ [])
    else handled y i [] [])
