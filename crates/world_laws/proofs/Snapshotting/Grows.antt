-- An event lengthens topics and moves no position that is stored; so a cut stays one.
use Rattle.std.proofs.Common.{ℕ, List, [], ◌∷◌, ◌++◌, refl, sym, subst, arith}
use Rattle.std.specs.Prelude.{Some, take}
use Rattle.std.proofs.lemmas.List.{append-nil}
use Rattle.world_laws.proofs.Types.{Cut, Entry, Position}
use Rattle.world_laws.proofs.Types.write
use Rattle.geo_base.specs.Broker.{Broker}
use Rattle.geo_base.specs.Cuts.{CoversCluster, IsCut}
use Rattle.geo_base.specs.Happening.{broker_does, broker_halts, stops}
use Rattle.geo_base.specs.Moments.{partly_written}
use Rattle.geo_base.specs.Plan.{Plan, all_written, done, halted}
use Rattle.geo_base.specs.Planned.{Planned}
use Rattle.geo_base.specs.Seeking.{restart}
use Rattle.geo_base.specs.Setup.{Setup}
use Rattle.geo_base.specs.World.{World, node, topic_at}
use Rattle.world_laws.proofs.Snapshotting.Answering.{AnswersAt, Numbered}
use Rattle.world_laws.proofs.OnceInOrder.Appends.{all_changed_entries}
use Rattle.world_laws.proofs.Counters.Counts.{all_changed_ledgers}
use Rattle.world_laws.proofs.Snapshotting.Hearing.{Stays, grown_get, grown_old}
use Rattle.world_laws.proofs.Induction.Layers.{Everywhere, one_topic}
use Rattle.world_laws.proofs.TopicOrder.Ledgers.{of_index}
use Rattle.world_laws.proofs.Snapshotting.Making.{writes_stay}
use Rattle.world_laws.proofs.Replicating.PairRoles.{shape_within}
use Rattle.world_laws.proofs.Walks.Shapes.{Shape}
use Rattle.world_laws.proofs.Replicating.Sizes.{IsThere, Sized, node_there, stopped_at}
use Rattle.world_laws.proofs.Walks.Walk.{on_if}

-- one topic, from one broker to the next
abbrev pub Lengthened : Broker → Broker → Type 0
Lengthened b b' = Stays b.entries b'.entries b.ledgers b'.ledgers

-- all topics
abbrev pub Grown : Setup → World → World → Type 0
Grown s w w' = (t x : ℕ) → IsThere s t x → Lengthened (topic_at s w t x) (topic_at s w' t x)

abbrev pub unchanged : (b : Broker) → Lengthened b b
unchanged b = record { more = []; is = sym (append-nil b.entries); position = λ k lt. refl; index = λ p i at. at }

done_lengthens : (per : ℕ) (b : Broker) (p : Plan) → Numbered b.entries b.ledgers → Lengthened b (done per b p)
done_lengthens per b p numbered =
    let c = all_written per b p.writes in let d = done per b p in
    subst (λ (ls : List ℕ). Stays b.entries d.entries b.ledgers ls) (sym (all_changed_ledgers c p.changes))
    (subst (λ (es : List Entry). Stays b.entries es b.ledgers c.ledgers) (sym (all_changed_entries c p.changes)) (writes_stay per b p.writes numbered))

pub grown_does : (s : Setup) (w : World) (p : Planned) → Shape s w p → Everywhere s (AnswersAt s) w → Grown s w (broker_does s w p)
unfolding broker_does
grown_does s w p shape all =
    let b = topic_at s w p.topic p.cluster in
    on_if (Grown s w) p.plan.idle _ _ (λ u v there. unchanged (topic_at s w u v))
    (one_topic s (λ u v c. Lengthened (topic_at s w u v) c) w p.topic p.cluster (done s.per_ledger b p.plan) (shape_within s w p shape)
    (λ here. done_lengthens s.per_ledger b p.plan (all p.topic p.cluster here).numbered) (λ u v there. unchanged (topic_at s w u v)))

pub grown_halts : (s : Setup) (w : World) (k : ℕ) (p : Planned) → Shape s w p → Everywhere s (AnswersAt s) w → Grown s w (broker_halts s w k p)
unfolding broker_halts
grown_halts s w k p shape all =
    let b = topic_at s w p.topic p.cluster in
    one_topic s (λ u v c. Lengthened (topic_at s w u v) c) w p.topic p.cluster (halted s.per_ledger b k p.plan) (shape_within s w p shape)
    (λ here. writes_stay s.per_ledger b (take k p.plan.writes ++ write.Ledger ∷ []) (all p.topic p.cluster here).numbered) (λ u v there. unchanged (topic_at s w u v))

pub grown_written : (s : Setup) (w : World) (k : ℕ) (p : Planned) → Shape s w p → Everywhere s (AnswersAt s) w → Grown s w (partly_written s w k (Some p))
grown_written s w k p shape all =
    let b = topic_at s w p.topic p.cluster in
    one_topic s (λ u v c. Lengthened (topic_at s w u v) c) w p.topic p.cluster (all_written s.per_ledger b (take k p.plan.writes)) (shape_within s w p shape)
    (λ here. writes_stay s.per_ledger b (take k p.plan.writes) (all p.topic p.cluster here).numbered) (λ u v there. unchanged (topic_at s w u v))

pub grown_stops : (s : Setup) (w : World) → Sized s w → Everywhere s (AnswersAt s) w → Grown s w (stops s w)
unfolding stops restart
grown_stops s w z all u v there =
    let b = topic_at s w u v in
    subst (Lengthened b) (sym (stopped_at w.brokers (λ c. done s.per_ledger c restart) (node s u v) (node_there s w u v z there)))
    (writes_stay s.per_ledger b (write.Ledger ∷ []) (all u v there).numbered)

-- a cluster that is covered stays so
covers_grow : (s : Setup) (w w' : World) (t x l y : ℕ) (p : Position) → Grown s w w' → Everywhere s (AnswersAt s) w → IsThere s t x → IsThere s t y
    → CoversCluster s w t x l y p → CoversCluster s w' t x l y p
covers_grow s w w' t x l y p grown all at_x at_y c =
    let a = topic_at s w t x in let a' = topic_at s w' t x in let b = topic_at s w t y in let b' = topic_at s w' t y in
    let g = grown t x at_x in let h = grown t y at_y in
    let within = (of_index b.ledgers p c.0 c.1).within in let whole = (all t y at_y).numbered.whole in (
      c.0,
      h.index p c.0 c.1,
      λ i e le at message meant.
          let r = c.2 i e le (grown_old b.entries b'.entries b.ledgers b'.ledgers h i e (omega (arith, within, whole, le)) at) message meant in
          (r.0, r.1, grown_get a.entries a'.entries a.ledgers a'.ledgers g r.0 e r.2),
    )

pub cut_grows : (s : Setup) (w w' : World) (t x : ℕ) (cut : Cut) → Grown s w w' → Everywhere s (AnswersAt s) w → IsThere s t x → IsCut s w t x cut → IsCut s w' t x cut
cut_grows s w w' t x cut grown all there c = (
  c.0,
  (grown t x there).index cut.local c.0 c.1,
  λ y lt other.
      let r = c.2 y lt other in (r.0, r.1, covers_grow s w w' t x c.0 y r.0 grown all there (there.0, lt) r.2),
)
