-- What an answer names, in a world: from what its topic knows of it, and that what came from the asking cluster stands there.
use Rattle.std.proofs.Common.{◌≡◌, ℕ, ◌*◌, ◌<◌, ◌≤◌, Bool, true, false, List, length, refl, ap, subst, ◌∙◌, arith}
use Rattle.std.specs.Prelude.{Some, nat_lt, slice_get}
use Rattle.std.proofs.lemmas.Bool.{eq-eqb, eqb-true, ltb-true}
use Rattle.std.proofs.lemmas.Bool.Decides.{nat_tests}
use Rattle.std.proofs.lemmas.List.{length-set}
use Rattle.std.proofs.lemmas.Option.{none-some}
use Rattle.world_laws.proofs.Types.{ClusterPosition, ClusterRef}
use Rattle.world_laws.proofs.Types.content
use Rattle.world_laws.proofs.Types.marker
use Rattle.world_laws.proofs.Types.cluster_ref
use Rattle.geo_base.specs.Broker.{Broker}
use Rattle.geo_base.specs.Laws.{IsAnswer, IsPrefix, LawPosition, MarkerAt, NamesPosition}
use Rattle.geo_base.specs.Moments.{partly_written}
use Rattle.geo_base.specs.Planned.{Planned}
use Rattle.geo_base.specs.Setup.{Setup}
use Rattle.geo_base.specs.World.{World, node, topic_at}
use Rattle.world_laws.proofs.Snapshotting.Answering.{Answers, AnswersAt, answering_durable}
use Rattle.world_laws.proofs.Induction.Layers.{Both, Everywhere, Grounds, both_kept, durable_kept, durable_written, grounds_kept}
use Rattle.world_laws.proofs.OnceInOrder.Members.{Stands}
use Rattle.world_laws.proofs.TopicOrder.Order.{of_source}
use Rattle.world_laws.proofs.Replicating.Pairs.{past_node, replicates_laws, written_laws}
use Rattle.world_laws.proofs.Induction.Runs.{IsKept, always}
use Rattle.world_laws.proofs.Walks.Shapes.{Shape}

-- an answer that stands in a topic that is there
answered : (s : Setup) (w : World) (t y j : ℕ) (id : List ℕ) (answer : ClusterPosition) → Everywhere s (AnswersAt s) w → IsPrefix s w → t < length s.topics
    → y < length s.clusters → (r : MarkerAt (topic_at s w t y) j y (marker.Response id answer)) → IsAnswer s w t y j r.entry id answer.position
answered s w t y j id answer all prefix there small r = record {
  behind = let below = a.below in omega (arith, below);
  names = a.names;
  asker = a.asker;
  within = a.small;
  to = a.to;
  index = source.place;
  request = record {
    entry = a.request.entry;
    stands = source.is;
    origin = eqb-true a.request.entry.ident.origin a.asker a.request.of;
    is = a.request.asks.1 ∙ ap (λ (p : ClusterRef). content.Marked (marker.Request id p)) own;
  };
}
  where
    a : Answers (length s.clusters) y (topic_at s w t y).entries (topic_at s w t y).ledgers j id answer r.entry
    a = (all t y (there, small)).answers j id answer r.entry (record { at = r.stands; of = eq-eqb r.entry.ident.origin y r.origin; is = r.is })

    source : Stands (topic_at s w t a.asker).entries a.request.entry
    source =
        of_source a.asker y (topic_at s w t a.asker).entries (topic_at s w t y).entries (prefix t a.asker y (a.small, small, a.other)) a.index a.request.entry
        a.request.at a.request.of

    own : a.request.asks.0 ≡ cluster_ref.Known a.asker
    own = (all t a.asker (there, a.small)).sources source.place a.request.entry id a.request.asks.0 source.is a.request.of a.request.asks.1

-- a topic that is not there has no entries
pub names_position : (s : Setup) (w : World) → Everywhere s (AnswersAt s) w → IsPrefix s w → length w.brokers ≡ length s.topics * length s.clusters → NamesPosition s w
names_position s w all prefix size t y j id answer small r = by (nat_lt t (length s.topics)) refl
  where
    by : (b : Bool) → nat_lt t (length s.topics) ≡ b → IsAnswer s w t y j r.entry id answer.position
    by true e = answered s w t y j id answer all prefix (ltb-true _ _ e) small r
    by false e =
        let le : length s.topics ≤ t = grind (arith, nat_tests, e) in
        let P : Broker → Type 0 = λ b. slice_get b.entries j ≡ Some r.entry in
        absurd (none-some r.entry (subst P (past_node s w.brokers t y size le) r.stands))

-- what each topic knows of its answers, on the ground of what stands
abbrev pub Answered : Setup → World → Type 0
Answered s = Both (Grounds s) (Everywhere s (AnswersAt s))

pub answered_kept : (s : Setup) → IsKept s (Answered s)
answered_kept s = both_kept s (Grounds s) (Everywhere s (AnswersAt s)) (grounds_kept s) (durable_kept s (AnswersAt s) (answering_durable s))

answered_names : (s : Setup) (w : World) → Answered s w → NamesPosition s w
answered_names s w h = names_position s w h.1 (replicates_laws s w h.0.0).0 h.0.0.sized.brokers

written_names : (s : Setup) (w : World) (k : ℕ) (p : Planned) → Shape s w p → Answered s w → NamesPosition s (partly_written s w k (Some p))
written_names s w k p shape h =
    names_position s (partly_written s w k (Some p)) (durable_written s (AnswersAt s) (answering_durable s) w k p shape h.0.1 h.1)
    (written_laws s w k p shape h.0.0).0 (length-set w.brokers (node s p.topic p.cluster) _ ∙ h.0.0.sized.brokers)

-- at every moment
pub position_always : LawPosition
position_always s = always s (Answered s) (NamesPosition s) (answered_kept s) (answered_names s) (written_names s)
