-- The places of an update that stands name one position of each other cluster, and an entry stands there.
use Rattle.std.proofs.Common.{◌≡◌, ◌-◌, ◌<◌, true, List, ◌∷◌, length, sym, ap, subst, ◌∙◌, arith, ℕ, []}
use Rattle.std.specs.Prelude.{Some, None, slice_index_or}
use Rattle.std.proofs.lemmas.Bool.{eq-eqb}
use Rattle.std.proofs.lemmas.Option.{none-some}
use Rattle.world_laws.proofs.Types.{ClusterPosition, Position, ReplicatorState}
use Rattle.world_laws.proofs.Types.marker
use Rattle.world_laws.proofs.Types.replicator_state
use Rattle.geo_base.specs.SnapshotBuilder.{named}
use Rattle.geo_base.specs.Cache.{cut_of}
use Rattle.geo_base.specs.Cuts.{CoversCluster, IsCut}
use Rattle.geo_base.specs.Laws.{ArePair, MarkerAt}
use Rattle.geo_base.specs.Name.{is_name}
use Rattle.geo_base.specs.Replicator.{Replicator, index_to_read}
use Rattle.geo_base.specs.Setup.{Setup}
use Rattle.geo_base.specs.Topic.{index_of}
use Rattle.geo_base.specs.Updating.{only_index, positions_for}
use Rattle.geo_base.specs.World.{World, topic_at}
use Rattle.world_laws.proofs.OnceInOrder.Members.{Stands}
use Rattle.world_laws.proofs.Replicating.Cursors.{next_is}
use Rattle.world_laws.proofs.Telling.Passing.{names_one}
use Rattle.world_laws.proofs.TopicOrder.Ledgers.{of_index}
use Rattle.failover_laws.proofs.AgainTraced.{IsCutHere, IsTold}
use Rattle.failover_laws.proofs.Behind.{at_home}
use Rattle.failover_laws.proofs.Covers.Known.{Standing}

-- its places name one position of y, which is stored
pub record NamesOne (s : Setup) (w : World) (t y : ℕ) (n : List ℕ) (told : List ClusterPosition) : Type 0 where
  pub position : Position
  pub one : positions_for y told ≡ position ∷ []
  pub index : ℕ
  pub stored : index_of (topic_at s w t y).ledgers position ≡ Some index
  pub names : only_index (topic_at s w t y).ledgers (positions_for y told) ≡ Some index
  pub stands : index < length (topic_at s w t y).entries
  pub name : is_name n ≡ true

pub names_stored : (s : Setup) (w : World) (t y a z k : ℕ) (n : List ℕ) (told : List ClusterPosition) → Standing s w → t < length s.topics → ArePair s a y → z < length s.clusters
    → MarkerAt (topic_at s w t z) k a (marker.Update n told) → NamesOne s w t y n told
names_stored s w t y a z k n told h lt pair small m = record {
  position = each.0;
  one = one;
  index = covered.0;
  stored = covered.1;
  names = subst (λ (ps : List Position). only_index (topic_at s w t y).ledgers ps ≡ Some covered.0) (sym one) covered.1;
  stands = let within = (of_index (topic_at s w t y).ledgers each.0 covered.0 covered.1).within in let whole = (h.knows.answers t y (lt, pair.1)).numbered.whole in omega (arith, within, whole);
  name = u.name;
}
  where
    home : Stands (topic_at s w t a).entries m.entry
    home = at_home s w t z k a m.entry h.knows m.stands m.origin pair.0 small

    u : IsTold (length s.clusters) a (topic_at s w t a).entries n told
    u = (h.traced t a (lt, pair.0)).updates home.place m.entry n told home.is (eq-eqb m.entry.ident.origin a m.origin) m.is

    c : IsCutHere (length s.clusters) a (topic_at s w t a).entries u.cut
    c = u.here

    cut : IsCut s w t a (cut_of a (length s.clusters) c.local c.remote)
    cut = ((h.cuts t a (lt, pair.0)).snapshots c.index c.entry c.id c.local c.remote c.at c.of c.is).1

    each : (p : Position) × (slice_index_or (cut_of a (length s.clusters) c.local c.remote).remote y None ≡ Some p) × CoversCluster s w t a cut.0 y p
    each = cut.2 y pair.1 pair.2

    covered : CoversCluster s w t a cut.0 y each.0
    covered = each.2

    one : positions_for y told ≡ each.0 ∷ []
    one = ap (positions_for y) (u.same ∙ ap named c.same) ∙ names_one y (cut_of a (length s.clusters) c.local c.remote).remote each.0 each.1

pub next_within : (state : ReplicatorState) (v : Replicator) (n i : ℕ) → index_to_read state v n ≡ Some i → i < n
next_within replicator_state.Open v n i next = let h = next_is v.cursor v.read_index (n - v.read_index) i next in let low = h.low in let high = h.high in omega (arith, low, high)
next_within replicator_state.Opening v n i next = absurd (none-some i next)
next_within replicator_state.Closed v n i next = absurd (none-some i next)
