-- Where messages may be, and what an operator reads off a replicator's line: what stands at a cluster, or goes to it, is meant for it, and
-- what a replicator's mark counts stands at the other cluster.
use Rattle.std.specs.Prelude.{◌≡◌, ℕ, ◌-◌, ◌<◌, ◌≤◌, true, List, ◌++◌, length, Option, Some, slice_get}
use Rattle.geo_base.specs.declared.entry.Entry.{Entry}
use Rattle.geo_base.specs.declared.frame.Frame.TheVariants as frame
use Rattle.geo_base.specs.declared.marker.ClusterRef.{ClusterRef}
use Rattle.geo_base.specs.declared.packet.Packet.{Packet}
use Rattle.geo_base.specs.Broker.{replicator_at}
use Rattle.geo_base.specs.Cursor.{mark}
use Rattle.geo_base.specs.Entry.{is_outbound, meant_for}
use Rattle.geo_base.specs.Laws.{Always, ArePair, of_origin, outbound}
use Rattle.geo_base.specs.Safe.{IsEntry}
use Rattle.geo_base.specs.Setup.{Setup}
use Rattle.geo_base.specs.World.{Forward, World, link_at, node, topic_at}

-- RESIDENCY

-- what stands at y was stored there first, or goes there: its list is empty, which means all clusters, or names y
abbrev pub OnlyMeant : Setup → World → Type 0
OnlyMeant s w = (t y i : ℕ) (e : Entry) → y < length s.clusters → IsEntry (topic_at s w t y) i e → meant_for y e ≡ true

-- and what was ever sent on the forward link from x to y, taken or not, is an entry that stands at x, which x stored first, and which goes
-- to y
abbrev pub OnlySent : Setup → World → Type 0
OnlySent s w = (t x y i : ℕ) (p : Packet) (id seq : ℕ) (source : Option ClusterRef) (e : Entry) → t < length s.topics → ArePair s x y
    → slice_get (link_at w.links (Forward (node s t x) y)).sent i ≡ Some p → p.frame ≡ frame.Send id seq source e
    → (is_outbound x y e ≡ true) × ((k : ℕ) × IsEntry (topic_at s w t x) k e)

pub record IsResident (s : Setup) (w : World) : Type 0 where
  pub stands : OnlyMeant s w
  pub sent : OnlySent s w

abbrev pub LawResident : Type 0
LawResident = (s : Setup) → Always s (λ w settled. IsResident s w)

-- WHAT A SENDER'S LINE SAYS

-- of the first entries here, as many as the mark of the replicator to y, those that go to y stand at y
abbrev pub StandsBelow : Setup → World → Type 0
StandsBelow s w = (t x y i : ℕ) (e : Entry) → ArePair s x y → i < mark (replicator_at (topic_at s w t x) y).cursor → IsEntry (topic_at s w t x) i e → is_outbound x y e ≡ true
    → (k : ℕ) × IsEntry (topic_at s w t y) k e

-- what y lacks of x's is the last of it, and no more than stands here at or after the mark
abbrev pub LacksAtMost : Setup → World → Type 0
LacksAtMost s w = (t x y : ℕ) → ArePair s x y → let b = topic_at s w t x in
    (lacks : List Entry) × (outbound x y b.entries ≡ of_origin x (topic_at s w t y).entries ++ lacks)
    × (length lacks ≤ length b.entries - mark (replicator_at b y).cursor)

pub record IsMarked (s : Setup) (w : World) : Type 0 where
  pub stands : StandsBelow s w
  pub lacks : LacksAtMost s w

abbrev pub LawMarked : Type 0
LawMarked = (s : Setup) → Always s (λ w settled. IsMarked s w)
