-- So do a stop inside an event, and a stop of everything.
use Rattle.std.proofs.Common.{◌≡◌, zero, suc, ◌<◌, ◌≤◌, true, List, ◌∷◌, ◌++◌, length, refl, sym, ap, subst, ◌∙◌, arith, inl, inr, ℕ, []}
use Rattle.std.specs.Prelude.{Option, Some, ◌-◌, slice_get, take}
use Rattle.std.proofs.lemmas.Bool.{eq-eqb, eqb-true}
use Rattle.std.proofs.lemmas.Option.{none-some}
use Rattle.world_laws.proofs.Types.{ClusterPosition, Entry, Event, Write}
use Rattle.world_laws.proofs.Types.cluster_ref
use Rattle.world_laws.proofs.Types.targets
use Rattle.world_laws.proofs.Types.write
use Rattle.geo_base.specs.Broker.{Broker, Site, replicator_at}
use Rattle.geo_base.specs.Cursor.{has}
use Rattle.geo_base.specs.Laws.{ArePair}
use Rattle.geo_base.specs.Markers.{read_content, response_marker}
use Rattle.geo_base.specs.Plan.{Plan, done, halted}
use Rattle.geo_base.specs.Planned.{Planned, planned}
use Rattle.geo_base.specs.Seeking.{restart}
use Rattle.geo_base.specs.Setup.{Setup}
use Rattle.geo_base.specs.Topic.{position_at}
use Rattle.geo_base.specs.Updating.{handled}
use Rattle.geo_base.specs.World.{World, site, topic_at}
use Rattle.world_laws.proofs.OnceInOrder.Appends.{written_entries}
use Rattle.world_laws.proofs.OnceInOrder.Members.{below_or, get_last}
use Rattle.world_laws.proofs.Replicating.Prefixes.{is_of}
use Rattle.world_laws.proofs.Snapshotting.Answering.{AnswerAt, Numbered, RequestAt}
use Rattle.world_laws.proofs.Snapshotting.Hearing.{Stays, grown_old}
use Rattle.world_laws.proofs.Snapshotting.Making.{writes_stay}
use Rattle.world_laws.proofs.TopicOrder.Added.{Adds, after_is, appended, adds_halt, shape_adds}
use Rattle.world_laws.proofs.Walks.EventWalk.{HasShape, planned_shape}
use Rattle.world_laws.proofs.Walks.Shapes.{Shape}
use Rattle.failover_laws.proofs.Acting.Acking.{done_left, LeaveIndex, restart_index}
use Rattle.failover_laws.proofs.Acting.ActingOn.{Acks, event_acks, part_left, PartLeft}
use Rattle.failover_laws.proofs.Acting.Named.{next_within}
use Rattle.failover_laws.proofs.Ending.Became.{at_node, Halted}
use Rattle.failover_laws.proofs.Ending.ExactReads.{reads_it}
use Rattle.failover_laws.proofs.Ending.Pursuing.{all_grows, answers_to_grows, AnswersTo, names_grow, Pursues}
use Rattle.failover_laws.proofs.Ending.Topics.{awaits, Facts}

-- the writes of an answer, and of a beginning of it
answer_part : (h : Site) (b : Broker) (y q i m : ℕ) (id : List ℕ) → m < 2 → LeaveIndex y i (take m (handled y q (write.Append (response_marker h b y id) ∷ []) []).writes)
answer_part h b y q i zero id lt = tt
answer_part h b y q i (suc zero) id lt = (tt, tt)
answer_part h b y q i (suc (suc m)) id lt = absurd (omega (arith, lt))

pub record AfterHalt (s : Setup) (w : World) (j t x : ℕ) (e : Event) (c : Broker) : Type 0 where
  pub origins : (k : ℕ) (f : Entry) → slice_get c.entries k ≡ Some f → f.ident.origin < length s.clusters
  pub left : (y i : ℕ) → y < length s.clusters → PartLeft j s t x y i (planned s w e) → has (replicator_at c y).cursor i ≡ true → has (replicator_at (topic_at s w t x) y).cursor i ≡ true

pub pursued_halt : (s : Setup) (w : World) (j t x : ℕ) (e : Event) (c : Broker) → Facts s w t x → AfterHalt s w j t x e c → Pursues x (topic_at s w t x) → Halted s w j e t x c → Pursues x c
pursued_halt s w j t x e _ f after old Halted.Same = old
pursued_halt s w j t x e _ f after old (Halted.Did k p is) = record {
  all = subst (λ (es : List Entry). (i : ℕ) (id : List ℕ) → (r : RequestAt x es i id) → r.entry.to ≡ targets.All) (sym whole) (all_grows h b (appended ws) adds old.all);
  names = subst (λ (es : List Entry). (i : ℕ) (id : List ℕ) (answer : ClusterPosition) (g : Entry) → AnswerAt x es i id answer g → answer.cluster ≡ cluster_ref.Known x) (sym whole)
      (names_grow h b (appended ws) adds old.names);
  answered = λ y q id other r acked.
      let pair = pair_of y q r.entry other r.at r.of in
      answers y q id other pair r acked e is after.left (event_acks s w t x y q (awaits s w t x y q r.entry f pair (λ lt. early q r.entry lt r.at) r.of) e);
  heard = λ u y i answer g making. absurd (none-some u making);
  asked = λ u making. absurd (none-some u making);
  waits = λ u making. absurd (none-some u making);
  going = λ u making. absurd (none-some u making);
}
  where
    h : Site
    h = site s t x

    b : Broker
    b = topic_at s w t x

    c : Broker
    c = halted s.per_ledger b j p

    ws : List Write
    ws = take j p.writes ++ write.Ledger ∷ []

    numbered : Numbered b.entries b.ledgers
    numbered = (f.knows.answers t x f.there).numbered

    shape : Shape s w (at_node t x k p)
    shape = subst (HasShape s w) is (planned_shape s w e)

    adds : Adds h b (appended ws)
    adds = adds_halt h b j p.writes (shape_adds s w (at_node t x k p) shape f.none)

    g : Stays b.entries c.entries b.ledgers c.ledgers
    g = writes_stay s.per_ledger b ws numbered

    whole : c.entries ≡ b.entries ++ appended ws
    whole = written_entries s.per_ledger b ws ∙ after_is b.entries ws

    early : (i : ℕ) (e : Entry) → i < length b.entries → slice_get c.entries i ≡ Some e → slice_get b.entries i ≡ Some e
    early i e lt at = grown_old b.entries c.entries b.ledgers c.ledgers g i e lt at

    pair_of : (y i : ℕ) (e : Entry) → (x ≡ y → ⊥) → slice_get c.entries i ≡ Some e → is_of y e ≡ true → ArePair s x y
    pair_of y i e other at of = (f.there.1, subst (λ (z : ℕ). z < length s.clusters) (eqb-true e.ident.origin y of) (after.origins i e at), other)

    within : (y i : ℕ) → ArePair s x y → has (replicator_at b y).cursor i ≡ true → i < length b.entries
    within y i pair acked = (f.replicates.pairs t x y f.there.0 pair).carried.within i acked

    from_before : (y q : ℕ) (id : List ℕ) → (x ≡ y → ⊥) → ArePair s x y → (r : RequestAt y c.entries q id) → has (replicator_at b y).cursor q ≡ true → AnswersTo x c.entries y id
    from_before y q id other pair r was =
        answers_to_grows x y b.entries c.entries b.ledgers c.ledgers id g
        (old.answered y q id other (record { entry = r.entry; at = early q r.entry (within y q pair was) r.at; of = r.of; asks = r.asks }) was)

    -- a request is answered before it is acknowledged
    answers : (y q : ℕ) (id : List ℕ) → (x ≡ y → ⊥) → ArePair s x y → (r : RequestAt y c.entries q id) → has (replicator_at c y).cursor q ≡ true → (e : Event) → planned s w e ≡ Some (at_node t x k p)
        → ((z i : ℕ) → z < length s.clusters → PartLeft j s t x z i (planned s w e) → has (replicator_at c z).cursor i ≡ true → has (replicator_at b z).cursor i ≡ true)
        → Acks s w t x y q e → AnswersTo x c.entries y id
    answers y q id other pair r acked e is lefts (Acks.Leaves e' l) = from_before y q id other pair r (lefts y q pair.1 (part_left j s t x y q (planned s w e) l) acked)
    answers y q id other pair r acked _ is lefts (Acks.ReadsIt next) =
        let at = early q r.entry (next_within _ _ _ q next) r.at in
        let read_is : p ≡ handled y q (write.Append (response_marker h b y id) ∷ []) [] =
        reads_it s w t x y q r.entry k p f.there.0 pair next at r.of is ∙ ap (read_content h b y q) r.asks.1 in
        elim (below_or j 2) [
          | inl few ↦
              from_before y q id other pair r
              (lefts y q pair.1
              (subst (λ (o : Option Planned). PartLeft j s t x y q o) (sym is)
              (λ same. subst (λ (z : Plan). LeaveIndex y q (take j z.writes)) (sym read_is) (answer_part h b y q q j id few))) acked)
          | inr enough ↦
              let last : c.entries ≡ b.entries ++ response_marker h b y id ∷ [] =
              whole ∙ ap (λ (z : Plan). b.entries ++ appended (take j z.writes ++ write.Ledger ∷ [])) read_is ∙ ap (λ (l : List Entry). b.entries ++ l) (all_taken j y q (response_marker h b y id) enough) in
              record {
                index = length b.entries;
                answer = record { cluster = cluster_ref.Known x; position = position_at b.ledgers (length b.entries - 1) };
                entry = response_marker h b y id;
                at = record {
                  at = subst (λ (es : List Entry). slice_get es (length b.entries) ≡ Some (response_marker h b y id)) (sym last) (get_last b.entries (response_marker h b y id));
                  of = eq-eqb x x refl;
                  is = refl;
                };
                to = refl;
              }
        ]
      where
        all_taken : (j y q : ℕ) (m : Entry) → 2 ≤ j → appended (take j (write.Append m ∷ write.ReplicatorAck y q ∷ []) ++ write.Ledger ∷ []) ≡ m ∷ []
        all_taken zero y q m le = absurd (omega (arith, le))
        all_taken (suc zero) y q m le = absurd (omega (arith, le))
        all_taken (suc (suc zero)) y q m le = refl
        all_taken (suc (suc (suc j))) y q m le = refl

pub pursued_stop : (s : Setup) (w : World) (t x : ℕ) → Facts s w t x → Pursues x (topic_at s w t x) → Pursues x (done s.per_ledger (topic_at s w t x) restart)
unfolding restart
pursued_stop s w t x f old = record {
  all = old.all;
  names = old.names;
  answered = λ y q id other r acked.
      let b = topic_at s w t x in
      let lt : y < length s.clusters = subst (λ (z : ℕ). z < length s.clusters) (eqb-true r.entry.ident.origin y r.of) ((f.knows.answers t x f.there).origins q r.entry r.at) in
      let wide = (f.replicates.sized.wide t x f.there).replicators in
      let a = old.answered y q id other (record { entry = r.entry; at = r.at; of = r.of; asks = r.asks })
      (done_left s.per_ledger b y q restart (omega (arith, wide, lt)) (restart_index y q) acked) in
      record { index = a.index; answer = a.answer; entry = a.entry; at = record { at = a.at.at; of = a.at.of; is = a.at.is }; to = a.to };
  heard = λ u y i answer g making. absurd (none-some u making);
  asked = λ u making. absurd (none-some u making);
  waits = λ u making. absurd (none-some u making);
  going = λ u making. absurd (none-some u making);
}
