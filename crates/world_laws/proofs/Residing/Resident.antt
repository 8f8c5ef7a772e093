-- What stands at a cluster, or was sent to it, is meant for it: from what is kept of each pair of clusters.
use Rattle.std.proofs.Common.{◌≡◌, ℕ, ◌*◌, ◌<◌, Bool, true, false, length, refl, ◌∙◌, ◌==◌}
use Rattle.std.specs.Prelude.{Some}
use Rattle.std.proofs.lemmas.Bool.{eq-eqb, eqb-false}
use Rattle.std.proofs.lemmas.List.{length-set}
use Rattle.geo_base.specs.Broker.{replicator_at}
use Rattle.geo_base.specs.Entry.{goes_to, meant_for}
use Rattle.geo_base.specs.Laws.{ArePair}
use Rattle.geo_base.specs.Moments.{partly_written}
use Rattle.geo_base.specs.Planned.{Planned}
use Rattle.geo_base.specs.Safe.{AllOnce}
use Rattle.geo_base.specs.Setup.{Setup}
use Rattle.geo_base.specs.World.{Back, Forward, World, link_at, node, topic_at}
use Rattle.world_laws.specs.Residency.{IsResident, LawResident, OnlyMeant, OnlySent}
use Rattle.world_laws.proofs.FrameContents.Carrying.{entry_there}
use Rattle.world_laws.proofs.Induction.Layers.{Everywhere, durable_written}
use Rattle.world_laws.proofs.Induction.Runs.{always}
use Rattle.world_laws.proofs.OnceInOrder.Once.{writes_once}
use Rattle.world_laws.proofs.Replicating.Cursors.{or_left, or_right}
use Rattle.world_laws.proofs.Replicating.Packets.{IsSend}
use Rattle.world_laws.proofs.Replicating.PairFacts.{Carried}
use Rattle.world_laws.proofs.Replicating.PairMoments.{pair_written}
use Rattle.world_laws.proofs.Replicating.Prefixes.{is_of}
use Rattle.world_laws.proofs.Replicating.Sizes.{IsThere}
use Rattle.world_laws.proofs.Snapshotting.Answering.{AnswersAt, answering_durable}
use Rattle.world_laws.proofs.Snapshotting.Positions.{Answered, answered_kept}
use Rattle.world_laws.proofs.TopicOrder.Order.{source_passes}
use Rattle.world_laws.proofs.Walks.Shapes.{Shape}
use Rattle.world_laws.proofs.Walks.Walk.{right}

-- what a world shows, whether between events or after a single write
pub record Shows (s : Setup) (w : World) : Type 0 where
  pub size : length w.brokers ≡ length s.topics * length s.clusters
  pub answers : Everywhere s (AnswersAt s) w
  pub once : AllOnce w
  pub carried : (t x y : ℕ) → t < length s.topics → ArePair s x y
      → Carried x y (topic_at s w t x).entries (replicator_at (topic_at s w t x) y).cursor (topic_at s w t y).entries (link_at w.links (Forward (node s t x) y)).sent (link_at w.links (Back (node s t x) y)).sent

pub shows : (s : Setup) (w : World) → Answered s w → Shows s w
shows s w h = record { size = h.0.0.sized.brokers; answers = h.1; once = h.0.0.once; carried = λ t x y lt pair. (h.0.0.pairs t x y lt pair).carried }

pub shows_written : (s : Setup) (w : World) (k : ℕ) (p : Planned) → Shape s w p → Answered s w → Shows s (partly_written s w k (Some p))
shows_written s w k p shape h = record {
  size = length-set w.brokers (node s p.topic p.cluster) _ ∙ h.0.0.sized.brokers;
  answers = durable_written s (AnswersAt s) (answering_durable s) w k p shape h.0.1 h.1;
  once = writes_once s w k p shape h.0.0.once;
  carried = λ t x y lt pair. pair_written s w k p t x y shape h.0.0.once h.0.0.sized lt pair (h.0.0.pairs t x y lt pair);
}

only_meant : (s : Setup) (w : World) → Shows s w → OnlyMeant s w
only_meant s w h t y i e small at = by (e.ident.origin == y) refl
  where
    x : ℕ
    x = e.ident.origin

    there : IsThere s t y
    there = entry_there s w t y i e h.size small at

    within : x < length s.clusters
    within = (h.answers t y there).origins i e at

    by : (b : Bool) → (x == y) ≡ b → meant_for y e ≡ true
    by true is = or_left (x == y) (goes_to y e.to) is
    by false is =
        let c = h.carried t x y there.0 (within, small, eqb-false x y is) in
        let p = source_passes x y (topic_at s w t x).entries (topic_at s w t y).entries c.begins i e at (eq-eqb x x refl) in
        or_right (x == y) (goes_to y e.to) (right (is_of x e) (goes_to y e.to) p.passes)

only_sent : (s : Setup) (w : World) → Shows s w → OnlySent s w
only_sent s w h t x y i p id seq source e lt pair at is =
    let sent : IsSend (link_at w.links (Forward (node s t x) y)).sent i p.session seq e = record { packet = p; at = at; carries = record { session = refl; id = id; source = source; is = is } } in
    let q = (h.carried t x y lt pair).sends i p.session seq e sent in (q.out, (q.index, q.at))

resident : (s : Setup) (w : World) → Shows s w → IsResident s w
resident s w h = record { stands = only_meant s w h; sent = only_sent s w h }

pub resident_always : LawResident
resident_always s = always s (Answered s) (IsResident s) (answered_kept s) (λ w h. resident s w (shows s w h)) (λ w k p shape h. resident s (partly_written s w k (Some p)) (shows_written s w k p shape h))
