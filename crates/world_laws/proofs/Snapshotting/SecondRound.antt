-- The second round in a world: from what each topic knows, prefix and the order between topics.
use Rattle.std.proofs.Common.{◌≡◌, ℕ, ◌*◌, ◌<◌, ◌≤◌, Bool, true, false, length, refl, sym, subst, ◌∙◌, arith}
use Rattle.std.specs.Prelude.{Some, None, nat_lt, slice_index_or}
use Rattle.std.proofs.lemmas.Bool.{eq-eqb, ltb-true}
use Rattle.std.proofs.lemmas.Bool.Decides.{nat_tests}
use Rattle.std.proofs.lemmas.List.{length-set}
use Rattle.std.proofs.lemmas.Option.{none-some, slice_get_within}
use Rattle.world_laws.proofs.Types.{SnapshotBuilder, ClusterPosition, Entry, Position}
use Rattle.world_laws.proofs.Types.marker
use Rattle.geo_base.specs.Broker.{Broker}
use Rattle.geo_base.specs.SnapshotBuilder.{second_id, snapshot_id}
use Rattle.geo_base.specs.Laws.{ArePair, ComesAfter, IsPrefix, IsShort, LawSecondRound, MarkerAt}
use Rattle.geo_base.specs.Moments.{partly_written}
use Rattle.geo_base.specs.Planned.{Planned}
use Rattle.geo_base.specs.Safe.{AllOnce, IsEntry}
use Rattle.geo_base.specs.Setup.{Setup}
use Rattle.geo_base.specs.Topic.{index_of, position_at}
use Rattle.geo_base.specs.World.{World, node, topic_at}
use Rattle.world_laws.proofs.Snapshotting.Answering.{AnswerAt, Answers, AnswersAt, answering_durable}
use Rattle.world_laws.proofs.Snapshotting.Asked.{AskedNow, Knowing, Named, asked_now, asked_written, knowing_kept, name_of, named}
use Rattle.world_laws.proofs.Counters.Counts.{RoomAt, few_room, stored_small, written_room}
use Rattle.world_laws.proofs.Snapshotting.Ids.{IsSmall, id_same, not_second, second_same}
use Rattle.world_laws.proofs.Induction.Layers.{Everywhere, durable_written}
use Rattle.world_laws.proofs.TopicOrder.Ledgers.{at_index}
use Rattle.world_laws.proofs.Snapshotting.Making.{Making}
use Rattle.world_laws.proofs.OnceInOrder.Members.{Stands}
use Rattle.world_laws.proofs.OnceInOrder.Once.{writes_once}
use Rattle.world_laws.proofs.TopicOrder.Order.{Below, of_source}
use Rattle.world_laws.proofs.TopicOrder.Ordered.{Ordered, ordered_written}
use Rattle.world_laws.proofs.Replicating.Pairs.{past_node, replicates_laws, written_laws}
use Rattle.world_laws.proofs.Induction.Runs.{always}
use Rattle.world_laws.proofs.Walks.Shapes.{Shape}
use Rattle.world_laws.proofs.Replicating.Sizes.{IsThere}
use Rattle.world_laws.proofs.Snapshotting.SnapshotFacts.{Form, comes_after}

-- what is known in a world, also in the midst of an event's writes
pub record Knows (s : Setup) (w : World) : Type 0 where
  pub once : AllOnce w
  pub prefix : IsPrefix s w
  pub ordered : Ordered s w
  pub answers : Everywhere s (AnswersAt s) w
  pub asked : AskedNow s w
  pub room : RoomAt s w
  pub size : length w.brokers ≡ length s.topics * length s.clusters

pub knows_now : (s : Setup) (w : World) → Knowing s w → IsShort w → Knows s w
knows_now s w h short = record {
  once = h.0.0.0.0.0.once;
  prefix = (replicates_laws s w h.0.0.0.0.0).0;
  ordered = h.0.1;
  answers = h.0.0.0.1;
  asked = asked_now s w (h.1 short);
  room = few_room s w short h.0.0.1;
  size = h.0.0.0.0.0.sized.brokers;
}

pub knows_written : (s : Setup) (w : World) (k : ℕ) (p : Planned) → Shape s w p → Knowing s w → IsShort w → Knows s (partly_written s w k (Some p))
knows_written s w k p shape h short = record {
  once = writes_once s w k p shape h.0.0.0.0.0.once;
  prefix = (written_laws s w k p shape h.0.0.0.0.0).0;
  ordered = ordered_written s w k p shape h.0.0.0.0.0 h.0.1;
  answers = durable_written s (AnswersAt s) (answering_durable s) w k p shape h.0.0.0.0.1 h.0.0.0.1;
  asked = asked_written s w k p shape h.0 (h.1 short);
  room = written_room s w k p shape short h.0.0.1;
  size = length-set w.brokers (node s p.topic p.cluster) _ ∙ h.0.0.0.0.0.sized.brokers;
}

-- the positions of what stands have small numbers
pub small_at : (s : Setup) (w : World) (t x i : ℕ) → Knows s w → IsThere s t x → i < length (topic_at s w t x).entries → IsSmall (position_at (topic_at s w t x).ledgers i)
small_at s w t x i k there lt =
    let b = topic_at s w t x in let numbered = (k.answers t x there).numbered in let whole = numbered.whole in
    stored_small b (position_at b.ledgers i) i (k.room t x there) numbered (at_index b.ledgers i (omega (arith, lt, whole)))

-- who asked for the second round of x's builder is x
pub asker_is : (s : Setup) (w : World) (t x c j : ℕ) (u : SnapshotBuilder) (answer : ClusterPosition) (e : Entry) → Named s → Knows s w → t < length s.topics → x < length s.clusters
    → c < length s.clusters → (topic_at s w t x).builder ≡ Some u
    → (h : Answers (length s.clusters) c (topic_at s w t c).entries (topic_at s w t c).ledgers j (second_id u.id) answer e) → h.asker ≡ x
asker_is s w t x c j u answer e names k lt small_x small_c is h = go (z.forms source.place (second_id u.id) (record { entry = h.request.entry; at = source.is; of = h.request.of; asks = h.request.asks }))
  where
    there : IsThere s t h.asker
    there = (lt, h.small)

    source : Stands (topic_at s w t h.asker).entries h.request.entry
    source =
        of_source h.asker c (topic_at s w t h.asker).entries (topic_at s w t c).entries (k.prefix t h.asker c (h.small, small_c, h.other)) h.index h.request.entry
        h.request.at h.request.of

    z : Making (length s.clusters) h.asker (name_of s h.asker) (topic_at s w t h.asker).entries (topic_at s w t h.asker).ledgers (topic_at s w t h.asker).builder
    z = k.asked t h.asker there

    within : source.place < length (topic_at s w t h.asker).entries
    within = slice_get_within (topic_at s w t h.asker).entries source.place h.request.entry source.is

    go : Form (name_of s h.asker) (topic_at s w t h.asker).entries (topic_at s w t h.asker).ledgers h.asker source.place (second_id u.id) → h.asker ≡ x
    go (Form.First same) =
        absurd (not_second (name_of s h.asker) u.id (position_at (topic_at s w t h.asker).ledgers source.place) (names.no_slash h.asker h.small)
        (small_at s w t h.asker source.place k there within) (sym same))
    go (Form.Second i below r same) =
        let b = topic_at s w t h.asker in
        let asked = ((k.asked t x (lt, small_x)).made u is).asked in
        let id : u.id ≡ snapshot_id (name_of s h.asker) (position_at b.ledgers i) = second_same u.id (snapshot_id (name_of s h.asker) (position_at b.ledgers i)) same in
        let both = id_same (name_of s h.asker) (name_of s x) (position_at b.ledgers i) (position_at (topic_at s w t x).ledgers asked.0) (names.no_colon h.asker h.small)
        (names.no_colon x small_x) (small_at s w t h.asker i k there (omega (arith, below, within)))
        (small_at s w t x asked.0 k (lt, small_x) (slice_get_within (topic_at s w t x).entries asked.0 asked.2.entry asked.2.at)) (sym id ∙ asked.1) in
        names.same h.asker x h.small small_x both.0

flip : (s : Setup) (x y : ℕ) → ArePair s x y → ArePair s y x
flip s x y pair = (pair.1, pair.0, λ is. pair.2 (sym is))

-- of a topic that is there
comes : (s : Setup) (w : World) → Named s → Knows s w → (t x c y j i l : ℕ) (u : SnapshotBuilder) (f : Entry) (answer : ClusterPosition) (p : Position) → t < length s.topics
    → ArePair s x y → ArePair s x c → ArePair s c y → (topic_at s w t x).builder ≡ Some u → u.second ≡ true
    → MarkerAt (topic_at s w t c) j c (marker.Response (second_id u.id) answer)
    → slice_index_or u.cut.remote y None ≡ Some p → index_of (topic_at s w t y).ledgers p ≡ Some l
    → IsEntry (topic_at s w t y) i f → i ≤ l → f.ident.origin ≡ c → Below (topic_at s w t c).entries j f
comes s w names k t x c y j i l u f answer p lt xy xc cy is second r kept named_l at_i le from =
    let a = topic_at s w t x in let cs = topic_at s w t c in let b = topic_at s w t y in
    let n = length s.clusters in
    let at : AnswerAt c cs.entries j (second_id u.id) answer r.entry = record { at = r.stands; of = eq-eqb r.entry.ident.origin c r.origin; is = r.is } in
    comes_after n x c y (name_of s x) a.entries cs.entries b.entries a.ledgers cs.ledgers b.ledgers u (k.prefix t y x (flip s x y xy)) (k.prefix t x c xc)
    (k.ordered.chain t x c y lt xc xy cy) ((k.asked t x (lt, xy.0)).made u is) second (k.answers t c (lt, xc.1)).answers (k.answers t y (lt, xy.1)).answers
    j answer r.entry at (asker_is s w t x c j u answer r.entry names k lt xy.0 xc.1 is) p l kept named_l i f at_i le (eq-eqb f.ident.origin c from)

-- in a topic that is not there no snapshot is being made
second_round : (s : Setup) (w : World) → Named s → Knows s w → ComesAfter s w
second_round s w names k t x c y j i l u f answer p xy xc cy is second r kept named_l at_i le from = by (nat_lt t (length s.topics)) refl
  where
    by : (b : Bool) → nat_lt t (length s.topics) ≡ b → (m : ℕ) × (m < j) × IsEntry (topic_at s w t c) m f
    by true e =
        let h = comes s w names k t x c y j i l u f answer p (ltb-true _ _ e) xy xc cy is second r kept named_l at_i le from in (h.place, h.below, h.is)
    by false e =
        let past : length s.topics ≤ t = grind (arith, nat_tests, e) in
        let P : Broker → Type 0 = λ b. b.builder ≡ Some u in
        absurd (none-some u (subst P (past_node s w.brokers t x k.size past) is))

-- at every moment of a short run
pub second_round_always : LawSecondRound
second_round_always s scripted =
    let names = named s scripted in
    always s (Knowing s) (λ w. IsShort w → ComesAfter s w) (knowing_kept s names) (λ w h short. second_round s w names (knows_now s w h short))
    (λ w k p shape h short. second_round s (partly_written s w k (Some p)) names (knows_written s w k p shape h short))
