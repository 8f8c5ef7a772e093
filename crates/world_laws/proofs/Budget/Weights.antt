-- The weight of a world: more than settling may still have to do. Each entry weighs, for each replicator that has not read it, what
-- its reading may bring about; each packet under way what its taking may; each cached snapshot an update, each builder a
-- request and a snapshot.
use Rattle.std.proofs.Common.{ℕ, ◌+◌, ◌-◌, ◌*◌, Bool, true, false, not, List, length, ◌==◌}
use Rattle.std.specs.Prelude.{Option, Some, None, if◌then◌else◌, ◌&&◌, ◌%◌, nat_lt}
use Rattle.world_laws.proofs.Types.{SnapshotBuilder, Content, Entry, Frame, Packet}
use Rattle.world_laws.proofs.Types.content
use Rattle.world_laws.proofs.Types.frame
use Rattle.world_laws.proofs.Types.marker
use Rattle.geo_base.specs.Broker.{Broker}
use Rattle.geo_base.specs.Entry.{is_outbound}
use Rattle.geo_base.specs.Link.{Link}
use Rattle.geo_base.specs.Replicator.{Replicator}
use Rattle.geo_base.specs.Setup.{Setup}
use Rattle.geo_base.specs.Subscription.{Subscription}
use Rattle.geo_base.specs.World.{Links, World}
use Rattle.world_laws.proofs.Budget.Tails.{sum_at, sum_from}

abbrev pub is_request : Content → Bool
is_request (content.Marked (marker.Request id source)) = true
is_request c = false

-- Where there are m other clusters: what appending an own entry that is no request adds
unfoldable pub dear : ℕ → ℕ
dear m = (3 + m) * m

-- and an own request
unfoldable pub asking : ℕ → ℕ
asking m = (3 + m + dear m) * m

-- an entry of another cluster, when it is stored: each replicator passes over it, and one answers it where it is a request
abbrev pub arrives : ℕ → Content → ℕ
arrives m c = m + (if is_request c then dear m else 0)

-- the entry e of the topic at x, for the replicator to y that has not read it
abbrev pub unread : ℕ → ℕ → ℕ → Entry → ℕ
unread m x y e = if is_outbound x y e then 3 + arrives m e.content else 1 + (if e.ident.origin == y then (if is_request e.content then dear m else 0) else 0)

-- among n clusters x has a replicator to y
abbrev pub is_peer : ℕ → ℕ → ℕ → Bool
is_peer n x y = nat_lt y n && not (y == x)

-- what the replicator to y has still to read
abbrev pub behind : ℕ → ℕ → List Entry → ℕ → Replicator → ℕ
behind n x es y s = if is_peer n x y then sum_from (unread (n - 1) x y) s.read_index es else 0

abbrev pub cached_in : List Subscription → ℕ
cached_in vs = sum_from (λ (v : Subscription). length v.cache) 0 vs

abbrev pub building : ℕ → Option SnapshotBuilder → ℕ
building m None = 0
building m (Some u) = if u.second then dear m else asking m + dear m

abbrev pub kept : ℕ → List Subscription → Option SnapshotBuilder → ℕ
kept m vs o = dear m * cached_in vs + building m o

-- the broker of a topic at x
abbrev pub broker_weight : ℕ → ℕ → Broker → ℕ
broker_weight n x b = sum_at (behind n x b.entries) 0 b.replicators + kept (n - 1) b.subs b.builder

-- a packet of a forward link; it is answered
abbrev pub ahead : ℕ → Frame → ℕ
ahead m (frame.Send id seq source e) = 2 + arrives m e.content
ahead m f = 2

abbrev pub forward_weight : ℕ → Link → ℕ
forward_weight m l = sum_from (λ (p : Packet). ahead m p.frame) l.taken l.sent

abbrev pub back_weight : Link → ℕ
back_weight l = sum_from (λ (p : Packet). 1) l.taken l.sent

abbrev pub table_weight : (Link → ℕ) → List (List Link) → ℕ
table_weight f ls = sum_from (λ (r : List Link). sum_from f 0 r) 0 ls

abbrev pub links_weight : ℕ → Links → ℕ
links_weight m ls = table_weight (forward_weight m) ls.forward + table_weight back_weight ls.back

-- of all; a node's number tells its cluster
abbrev pub weight : Setup → World → ℕ
weight s w = let n = length s.clusters in sum_at (λ j b. broker_weight n (j % n) b) 0 w.brokers + links_weight (n - 1) w.links
