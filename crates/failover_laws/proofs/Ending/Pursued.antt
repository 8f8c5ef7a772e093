-- An event keeps what a topic knows of requests and answers.
use Rattle.std.proofs.Common.{◌≡◌, ◌+◌, ◌<◌, ◌≤◌, Bool, true, false, List, ◌∷◌, ◌++◌, length, refl, sym, ap, subst, ◌∙◌, ◌==◌, arith, ℕ, []}
use Rattle.std.specs.Prelude.{Option, Some, None, ◌-◌, nat_lt, slice_get}
use Rattle.std.proofs.lemmas.Bool.{eq-eqb, eqb-true, lt-ltb}
use Rattle.std.proofs.lemmas.Option.{none-some, same_Some, slice_get_within}
use Rattle.world_laws.proofs.Types.{SnapshotBuilder, ClusterPosition, Entry, Event, ClusterRef}
use Rattle.world_laws.proofs.Types.content
use Rattle.world_laws.proofs.Types.marker
use Rattle.world_laws.proofs.Types.cluster_ref
use Rattle.world_laws.proofs.Types.targets
use Rattle.world_laws.proofs.Types.write
use Rattle.geo_base.specs.Broker.{Broker, Site, cluster_name, replicator_at}
use Rattle.geo_base.specs.SnapshotBuilder.{current_id, on_response, snapshot_id, started}
use Rattle.geo_base.specs.Cursor.{has}
use Rattle.geo_base.specs.Entry.{means_cluster}
use Rattle.geo_base.specs.Laws.{ArePair}
use Rattle.geo_base.specs.Markers.{heard_from, read_content, read_response, request_marker, response_marker}
use Rattle.geo_base.specs.Plan.{Plan, done}
use Rattle.geo_base.specs.Planned.{planned}
use Rattle.geo_base.specs.Scripted.{IsScripted}
use Rattle.geo_base.specs.Setup.{Setup}
use Rattle.geo_base.specs.Topic.{next_position, position_at}
use Rattle.geo_base.specs.Updating.{handled}
use Rattle.geo_base.specs.World.{World, site, topic_at}
use Rattle.world_laws.proofs.OnceInOrder.Members.{get_last}
use Rattle.world_laws.proofs.Replicating.Prefixes.{is_of}
use Rattle.world_laws.proofs.Snapshotting.Answering.{AnswerAt, Numbered, RequestAt}
use Rattle.world_laws.proofs.Snapshotting.Asked.{name_of}
use Rattle.world_laws.proofs.Snapshotting.Building.{Building, builder_then, done_builder, quiet_builder, shape_building}
use Rattle.world_laws.proofs.Snapshotting.Hearing.{Stays, grown_old, request_stays}
use Rattle.world_laws.proofs.Snapshotting.SnapshotFacts.{Made}
use Rattle.world_laws.proofs.TopicOrder.Added.{Adds, appended, shape_adds}
use Rattle.world_laws.proofs.Walks.EventWalk.{HasShape, planned_shape}
use Rattle.world_laws.proofs.Walks.Shapes.{Shape}
use Rattle.world_laws.proofs.Walks.Walk.{on_true}
use Rattle.failover_laws.proofs.Acting.ActingOn.{Acks, event_acks, IndexLeft}
use Rattle.failover_laws.proofs.Acting.Named.{next_within}
use Rattle.failover_laws.proofs.Ending.Became.{at_node, Became, done_entries, done_stays}
use Rattle.failover_laws.proofs.Ending.ExactReads.{reads_it}
use Rattle.failover_laws.proofs.Ending.Pursuing.{all_grows, answers_to_grows, AnswersTo, begins_after, heard_now, names_grow, Pursues, waits_after}
use Rattle.failover_laws.proofs.Ending.Topics.{awaits, Facts, request_of}
use Rattle.failover_laws.proofs.SameIds.{SameIds}

-- ---- a read, exactly

-- ---- an answer that stands has its request beside it

-- ---- an event

-- what is known after it
pub record After (s : Setup) (w : World) (t x : ℕ) (e : Event) (c : Broker) : Type 0 where
  pub ids : SameIds x c.entries
  pub origins : (k : ℕ) (f : Entry) → slice_get c.entries k ≡ Some f → f.ident.origin < length s.clusters
  pub left : (y i : ℕ) → y < length s.clusters → IndexLeft s t x y i (planned s w e) → has (replicator_at c y).cursor i ≡ true → has (replicator_at (topic_at s w t x) y).cursor i ≡ true

pub pursued : (s : Setup) (w : World) (t x : ℕ) (e : Event) (c : Broker) → IsScripted s → Facts s w t x → After s w t x e c → Pursues x (topic_at s w t x) → Became s w e t x c → Pursues x c
pursued s w t x e _ scripted f after old Became.Same = old
pursued s w t x e _ scripted f after old (Became.Did k p is) = record {
  all = subst (λ (es : List Entry). (i : ℕ) (id : List ℕ) → (r : RequestAt x es i id) → r.entry.to ≡ targets.All) (sym whole) (all_grows h b (appended p.writes) adds old.all);
  names = subst (λ (es : List Entry). (i : ℕ) (id : List ℕ) (answer : ClusterPosition) (g : Entry) → AnswerAt x es i id answer g → answer.cluster ≡ cluster_ref.Known x) (sym whole)
      (names_grow h b (appended p.writes) adds old.names);
  answered = λ y q id other r acked.
      let pair = pair_of y q r.entry other r.at r.of in
      answers y q id other pair r acked e is after.left (event_acks s w t x y q (awaits s w t x y q r.entry f pair (λ lt. early q r.entry lt r.at) r.of) e);
  heard = λ u y i answer g making other a placed acked.
      let pair = pair_of y i g other a.at a.of in
      hears u y i answer g making other pair a placed acked e is after.left (event_acks s w t x y i (awaits s w t x y i g f pair (λ lt. early i g lt a.at) a.of) e);
  asked = λ u making. asks u making p build refl;
  waits = λ u making. waiting u making p build refl;
  going = λ u making. goes u making p build refl;
}
  where
    h : Site
    h = site s t x

    b : Broker
    b = topic_at s w t x

    c : Broker
    c = done s.per_ledger b p

    numbered : Numbered b.entries b.ledgers
    numbered = (f.knows.answers t x f.there).numbered

    shape : Shape s w (at_node t x k p)
    shape = subst (HasShape s w) is (planned_shape s w e)

    adds : Adds h b (appended p.writes)
    adds = shape_adds s w (at_node t x k p) shape f.none

    build : Building h b p
    build = shape_building s w (at_node t x k p) shape f.none

    g : Stays b.entries c.entries b.ledgers c.ledgers
    g = done_stays s.per_ledger b p numbered

    whole : c.entries ≡ b.entries ++ appended p.writes
    whole = done_entries s.per_ledger b p

    early : (i : ℕ) (e : Entry) → i < length b.entries → slice_get c.entries i ≡ Some e → slice_get b.entries i ≡ Some e
    early i e lt at = grown_old b.entries c.entries b.ledgers c.ledgers g i e lt at

    pair_of : (y i : ℕ) (e : Entry) → (x ≡ y → ⊥) → slice_get c.entries i ≡ Some e → is_of y e ≡ true → ArePair s x y
    pair_of y i e other at of = (f.there.1, subst (λ (z : ℕ). z < length s.clusters) (eqb-true e.ident.origin y of) (after.origins i e at), other)

    within : (y i : ℕ) → ArePair s x y → has (replicator_at b y).cursor i ≡ true → i < length b.entries
    within y i pair acked = (f.replicates.pairs t x y f.there.0 pair).carried.within i acked

    made : (u : SnapshotBuilder) → b.builder ≡ Some u → Made (length s.clusters) x (name_of s x) b.entries b.ledgers u
    made u making = (f.knows.asked t x f.there).made u making

    -- a request that was read is answered
    answers : (y q : ℕ) (id : List ℕ) → (x ≡ y → ⊥) → ArePair s x y → (r : RequestAt y c.entries q id) → has (replicator_at c y).cursor q ≡ true → (e : Event) → planned s w e ≡ Some (at_node t x k p)
        → ((z i : ℕ) → z < length s.clusters → IndexLeft s t x z i (planned s w e) → has (replicator_at c z).cursor i ≡ true → has (replicator_at b z).cursor i ≡ true)
        → Acks s w t x y q e → AnswersTo x c.entries y id
    answers y q id other pair r acked e is lefts (Acks.Leaves e' l) =
        let was = lefts y q pair.1 l acked in
        answers_to_grows x y b.entries c.entries b.ledgers c.ledgers id g
        (old.answered y q id other (record { entry = r.entry; at = early q r.entry (within y q pair was) r.at; of = r.of; asks = r.asks }) was)
    answers y q id other pair r acked _ is lefts (Acks.ReadsIt next) =
        let at = early q r.entry (next_within _ _ _ q next) r.at in
        let read_is : p ≡ handled y q (write.Append (response_marker h b y id) ∷ []) [] =
        reads_it s w t x y q r.entry k p f.there.0 pair next at r.of is ∙ ap (read_content h b y q) r.asks.1 in
        let last : c.entries ≡ b.entries ++ response_marker h b y id ∷ [] = whole ∙ ap (λ (q : Plan). b.entries ++ appended q.writes) read_is in
        record {
          index = length b.entries;
          answer = record { cluster = cluster_ref.Known x; position = position_at b.ledgers (length b.entries - 1) };
          entry = response_marker h b y id;
          at = record {
            at = subst (λ (es : List Entry). slice_get es (length b.entries) ≡ Some (response_marker h b y id)) (sym last) (get_last b.entries (response_marker h b y id));
            of = eq-eqb x x refl;
            is = refl;
          };
          to = refl;
        }

    -- no answer came before its request
    too_soon : (y i r : ℕ) (id : List ℕ) (answer : ClusterPosition) (e : Entry) → ArePair s x y → i < length b.entries → AnswerAt y c.entries i id answer e → length b.entries ≤ r
        → RequestAt x c.entries r id → ⊥
    too_soon y i r id answer e pair lt a le request =
        let q = request_of s w t x y i id answer e f pair (record { at = early i e lt a.at; of = a.of; is = a.is }) in
        let low = slice_get_within b.entries q.0 q.1.entry q.1.at in
        let same = after.ids q.0 r id (request_stays x q.0 b.entries c.entries b.ledgers c.ledgers id g q.1) request in
        omega (arith, low, le, same)

    new_request : (id : List ℕ) (m : Entry) → appended p.writes ≡ m ∷ [] → is_of x m ≡ true → (source : ClusterRef) × (m.content ≡ content.Marked (marker.Request id source))
        → RequestAt x c.entries (length b.entries) id
    new_request id m only of asks = record {
      entry = m;
      at = subst (λ (es : List Entry). slice_get es (length b.entries) ≡ Some m) (sym (whole ∙ ap (λ (l : List Entry). b.entries ++ l) only)) (get_last b.entries m);
      of = of;
      asks = asks;
    }

    -- an answer that was read was heard
    -- what the builder has become
    built : (q : Plan) → q ≡ p → c.builder ≡ builder_then b.builder q.changes
    built q same = done_builder s.per_ledger b p ∙ ap (λ (r : Plan). builder_then b.builder r.changes) (sym same)

    -- an answer that was heard before, or that no request allows yet
    hears_left : (u : SnapshotBuilder) (y i : ℕ) (answer : ClusterPosition) (m : Entry) → c.builder ≡ Some u → (x ≡ y → ⊥) → ArePair s x y → AnswerAt y c.entries i (current_id u) answer m
        → means_cluster y answer.cluster ≡ true → has (replicator_at b y).cursor i ≡ true → i < length b.entries → (q : Plan) → Building h b q → q ≡ p → has u.heard y ≡ true
    hears_left u y i answer m making other pair a placed was lt q (Building.Leaves q' silent quiet) same =
        old.heard u y i answer m (sym (quiet_builder h b b.builder q.changes quiet) ∙ (sym (built q same) ∙ making)) other (record { at = early i m lt a.at; of = a.of; is = a.is }) placed was
    hears_left u y i answer m making other pair a placed was lt q (Building.Ends q' silent ends caches) same = absurd (none-some u (sym ends ∙ (sym (built q same) ∙ making)))
    hears_left u y i answer m making other pair a placed was lt q (Building.Begins none) same =
        let id = snapshot_id (cluster_name h h.own) (next_position h.per_ledger b.ledgers) in
        let new : started id h.own (length h.clusters) ≡ u = same_Some _ u (sym (built q same) ∙ making) in
        absurd (too_soon y i (length b.entries) id answer m pair lt (subst (λ (v : SnapshotBuilder). AnswerAt y c.entries i (current_id v) answer m) (sym new) a) (omega arith)
        (new_request id (request_marker h b id) (ap (λ (r : Plan). appended r.writes) (sym same)) (eq-eqb x x refl) (cluster_ref.Known x, refl)))
    hears_left u y i answer m making other pair a placed was lt q (Building.Counts z j f id' answer' v v' next response heard) same =
        let new : v' ≡ u = same_Some v' u (sym (built q same) ∙ making) in
        let w' = waits_after b z j id' answer' v v' heard in
        let id : current_id u ≡ current_id v = ap (λ (r : SnapshotBuilder). current_id r) (sym new) ∙ w'.same in
        let then : AnswerAt y b.entries i (current_id v) answer m = record { at = early i m lt a.at; of = a.of; is = a.is ∙ ap (λ (l : List ℕ). content.Marked (marker.Response l answer)) id } in
        subst (λ (r : SnapshotBuilder). has r.heard y ≡ true) new (w'.more y (old.heard v y i answer m response.2 other then placed was))
    hears_left u y i answer m making other pair a placed was lt q (Building.AsksAgain z j f id' answer' v v' next response heard) same =
        let new : v' ≡ u = same_Some v' u (sym (built q same) ∙ making) in
        absurd (too_soon y i (length b.entries) (current_id v') answer m pair lt (subst (λ (r : SnapshotBuilder). AnswerAt y c.entries i (current_id r) answer m) (sym new) a) (omega arith)
        (new_request (current_id v') (request_marker h b (current_id v')) (ap (λ (r : Plan). appended r.writes) (sym same)) (eq-eqb x x refl) (cluster_ref.Known x, refl)))

    -- an answer that is read now
    hears_now : (u : SnapshotBuilder) (y i : ℕ) (answer : ClusterPosition) → c.builder ≡ Some u → (x ≡ y → ⊥) → ArePair s x y → means_cluster y answer.cluster ≡ true → (o : Option SnapshotBuilder) → b.builder ≡ o
        → p ≡ read_response h b y i (current_id u) answer o → has u.heard y ≡ true
    hears_now u y i answer making other pair placed None before read_is =
        absurd (none-some u (sym (ap (λ (r : Option SnapshotBuilder). r) before) ∙ (sym (done_builder s.per_ledger b p ∙ ap (λ (r : Plan). builder_then b.builder r.changes) read_is) ∙ making)))
    hears_now u y i answer making other pair placed (Some v) before read_is =
        let r = made v before in
        let here : p ≡ heard_from h b y i (on_response v (current_id u) y answer.position (position_at b.ledgers i)) = read_is ∙ on_true (means_cluster y answer.cluster) _ _ placed in
        let own : (y == v.own) ≡ false = apart_from y v.own (λ e. other (sym (e ∙ r.own))) in
        let small : nat_lt y v.clusters ≡ true = lt-ltb y v.clusters (subst (λ (n : ℕ). y < n) (sym r.clusters) pair.1) in
        heard_now h b y i (current_id u) answer v (old.going v before) own small u
        (sym (done_builder s.per_ledger b p ∙ ap (λ (z : Plan). builder_then b.builder z.changes) here ∙ ap (λ (o : Option SnapshotBuilder). builder_then o (heard_from h b y i (on_response v (current_id u) y answer.position (position_at b.ledgers i))).changes) before) ∙ making) refl
      where
        apart_from : (k l : ℕ) → (k ≡ l → ⊥) → (k == l) ≡ false
        apart_from k l no_same = by (k == l) refl
          where
            by : (b : Bool) → (k == l) ≡ b → b ≡ false
            by true e = absurd (no_same (eqb-true k l e))
            by false e = refl

    hears : (u : SnapshotBuilder) (y i : ℕ) (answer : ClusterPosition) (m : Entry) → c.builder ≡ Some u → (x ≡ y → ⊥) → ArePair s x y → AnswerAt y c.entries i (current_id u) answer m
        → means_cluster y answer.cluster ≡ true → has (replicator_at c y).cursor i ≡ true → (e : Event) → planned s w e ≡ Some (at_node t x k p)
        → ((z j : ℕ) → z < length s.clusters → IndexLeft s t x z j (planned s w e) → has (replicator_at c z).cursor j ≡ true → has (replicator_at b z).cursor j ≡ true)
        → Acks s w t x y i e → has u.heard y ≡ true
    hears u y i answer m making other pair a placed acked e is lefts (Acks.Leaves e' l) =
        let was = lefts y i pair.1 l acked in hears_left u y i answer m making other pair a placed was (within y i pair was) p build refl
    hears u y i answer m making other pair a placed acked _ is lefts (Acks.ReadsIt next) =
        let at = early i m (next_within _ _ _ i next) a.at in
        hears_now u y i answer making other pair placed b.builder refl
        (reads_it s w t x y i m k p f.there.0 pair next at a.of is ∙ ap (read_content h b y i) a.is)

    -- the request of the snapshot in the making stands
    asks : (u : SnapshotBuilder) → c.builder ≡ Some u → (q : Plan) → Building h b q → q ≡ p → (i : ℕ) × RequestAt x c.entries i (current_id u)
    asks u making q (Building.Leaves q' silent quiet) same =
        let r = old.asked u (sym (quiet_builder h b b.builder q.changes quiet) ∙ (sym (built q same) ∙ making)) in
        (r.0, request_stays x r.0 b.entries c.entries b.ledgers c.ledgers (current_id u) g r.1)
    asks u making q (Building.Ends q' silent ends caches) same = absurd (none-some u (sym ends ∙ (sym (built q same) ∙ making)))
    asks u making q (Building.Begins none) same =
        let id = snapshot_id (cluster_name h h.own) (next_position h.per_ledger b.ledgers) in
        let new : started id h.own (length h.clusters) ≡ u = same_Some _ u (sym (built q same) ∙ making) in (
          length b.entries,
          subst (λ (v : SnapshotBuilder). RequestAt x c.entries (length b.entries) (current_id v)) new
              (new_request id (request_marker h b id) (ap (λ (r : Plan). appended r.writes) (sym same)) (eq-eqb x x refl) (cluster_ref.Known x, refl)),
        )
    asks u making q (Building.Counts z j f' id' answer' v v' next response heard) same =
        let new : v' ≡ u = same_Some v' u (sym (built q same) ∙ making) in
        let w' = waits_after b z j id' answer' v v' heard in
        let r = old.asked v response.2 in (
          r.0,
          subst (λ (l : List ℕ). RequestAt x c.entries r.0 l) (sym w'.same ∙ ap (λ (b : SnapshotBuilder). current_id b) new)
              (request_stays x r.0 b.entries c.entries b.ledgers c.ledgers (current_id v) g r.1),
        )
    asks u making q (Building.AsksAgain z j f' id' answer' v v' next response heard) same =
        let new : v' ≡ u = same_Some v' u (sym (built q same) ∙ making) in (
          length b.entries,
          subst (λ (r : SnapshotBuilder). RequestAt x c.entries (length b.entries) (current_id r)) new
              (new_request (current_id v') (request_marker h b (current_id v')) (ap (λ (r : Plan). appended r.writes) (sym same)) (eq-eqb x x refl) (cluster_ref.Known x, refl)),
        )

    some_other : 1 < length s.clusters
    some_other = let two = scripted.clusters.0 in omega (arith, two)

    waiting : (u : SnapshotBuilder) → c.builder ≡ Some u → (q : Plan) → Building h b q → q ≡ p → nat_lt (length u.heard + 1) u.clusters ≡ true
    waiting u making q (Building.Leaves q' silent quiet) same = old.waits u (sym (quiet_builder h b b.builder q.changes quiet) ∙ (sym (built q same) ∙ making))
    waiting u making q (Building.Ends q' silent ends caches) same = absurd (none-some u (sym ends ∙ (sym (built q same) ∙ making)))
    waiting u making q (Building.Begins none) same =
        subst (λ (v : SnapshotBuilder). nat_lt (length v.heard + 1) v.clusters ≡ true) (same_Some _ u (sym (built q same) ∙ making)) (lt-ltb 1 (length s.clusters) some_other)
    waiting u making q (Building.Counts z j f' id' answer' v v' next response heard) same =
        subst (λ (r : SnapshotBuilder). nat_lt (length r.heard + 1) r.clusters ≡ true) (same_Some v' u (sym (built q same) ∙ making)) (waits_after b z j id' answer' v v' heard).waits
    waiting u making q (Building.AsksAgain z j f' id' answer' v v' next response heard) same =
        let w' = begins_after b z j id' answer' v v' heard in
        let many : 1 < v'.clusters = let n = w'.clusters ∙ (made v response.2).clusters in omega (arith, n, some_other) in
        subst (λ (r : SnapshotBuilder). nat_lt (length r.heard + 1) r.clusters ≡ true) (same_Some v' u (sym (built q same) ∙ making))
        (subst (λ (l : List ℕ). nat_lt (length l + 1) v'.clusters ≡ true) (sym w'.none) (lt-ltb 1 v'.clusters many))

    goes : (u : SnapshotBuilder) → c.builder ≡ Some u → (q : Plan) → Building h b q → q ≡ p → u.finished ≡ false
    goes u making q (Building.Leaves q' silent quiet) same = old.going u (sym (quiet_builder h b b.builder q.changes quiet) ∙ (sym (built q same) ∙ making))
    goes u making q (Building.Ends q' silent ends caches) same = absurd (none-some u (sym ends ∙ (sym (built q same) ∙ making)))
    goes u making q (Building.Begins none) same = subst (λ (v : SnapshotBuilder). v.finished ≡ false) (same_Some _ u (sym (built q same) ∙ making)) refl
    goes u making q (Building.Counts z j f' id' answer' v v' next response heard) same =
        subst (λ (r : SnapshotBuilder). r.finished ≡ false) (same_Some v' u (sym (built q same) ∙ making)) ((waits_after b z j id' answer' v v' heard).going ∙ old.going v response.2)
    goes u making q (Building.AsksAgain z j f' id' answer' v v' next response heard) same =
        subst (λ (r : SnapshotBuilder). r.finished ≡ false) (same_Some v' u (sym (built q same) ∙ making)) ((begins_after b z j id' answer' v v' heard).going ∙ old.going v response.2)

-- ---- a stop inside an event

-- ---- a stop of everything
