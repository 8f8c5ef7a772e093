-- Every event keeps what a topic knows of its own requests and of the snapshot that it makes.
use Rattle.std.proofs.Common.{◌≡◌, ℕ, ◌-◌, ◌<◌, List, [], ◌∷◌, ◌++◌, length, refl, sym, ap, subst, ◌∙◌, arith, inl, inr}
use Rattle.std.specs.Prelude.{Option, Some, take}
use Rattle.std.proofs.lemmas.Bool.{eq-eqb, false≢true}
use Rattle.std.proofs.lemmas.Option.{none-some, same_Some, slice_get_within}
use Rattle.world_laws.proofs.Types.{SnapshotBuilder, ClusterPosition, Entry, Progress}
use Rattle.world_laws.proofs.Types.cluster_ref
use Rattle.world_laws.proofs.Types.progress
use Rattle.world_laws.proofs.Types.write
use Rattle.geo_base.specs.Broker.{Broker, Site, cluster_name}
use Rattle.geo_base.specs.SnapshotBuilder.{Heard, current_id, second_id, snapshot_id, started}
use Rattle.geo_base.specs.Markers.{request_marker}
use Rattle.geo_base.specs.Plan.{Plan, all_written, done, halted}
use Rattle.geo_base.specs.Topic.{index_of, next_position, position_at}
use Rattle.world_laws.proofs.TopicOrder.Added.{appended}
use Rattle.world_laws.proofs.Snapshotting.Answering.{Numbered, RequestAt, old_or_new}
use Rattle.world_laws.proofs.OnceInOrder.Appends.{all_changed_entries}
use Rattle.world_laws.proofs.Snapshotting.Building.{Building, all_written_builder, builder_then, building_requests, done_builder, heard_later, quiet_builder, requests_opened, requests_take}
use Rattle.world_laws.proofs.Counters.Counts.{all_changed_ledgers}
use Rattle.world_laws.proofs.Snapshotting.Hearing.{heard_more, made_grows}
use Rattle.world_laws.proofs.Snapshotting.Ids.{id_same, not_second, second_same}
use Rattle.world_laws.proofs.TopicOrder.Ledgers.{at_index}
use Rattle.world_laws.proofs.Snapshotting.Making.{AllForms, MadeAfter, Making, NoneNew, Telling, asked_id, asks_requests, first_new, forms_written, not_yet_grows, only_new, silent_append, started_made, writes_stay}
use Rattle.world_laws.proofs.OnceInOrder.Members.{get_last}
use Rattle.world_laws.proofs.TopicOrder.NextPosition.{next_unused}
use Rattle.world_laws.proofs.Walks.Shapes.{Hears, IsResponse, ReadsNext}
use Rattle.world_laws.proofs.Snapshotting.SnapshotFacts.{Form, Made, NotYet}

-- no request asks for the second round of a snapshot whose own request is still to come: this is where ids have to differ
fresh_not_yet : (per x : ℕ) (name : List ℕ) (es : List Entry) (ls : List ℕ) → Numbered es ls → Telling per name ls → AllForms x name es ls → (k : ℕ)
    → RequestAt x es k (second_id (snapshot_id name (next_position per ls))) → ⊥
fresh_not_yet per x name es ls numbered tells forms k r = go (forms k (second_id (snapshot_id name (next_position per ls))) r)
  where
    within : k < length es
    within = slice_get_within es k r.entry r.at

    stands : (j : ℕ) → j < length es → index_of ls (position_at ls j) ≡ Some j
    stands j lt = let whole = numbered.whole in at_index ls j (omega (arith, lt, whole))

    go : Form name es ls x k (second_id (snapshot_id name (next_position per ls))) → ⊥
    go (Form.First is) =
        not_second name (snapshot_id name (next_position per ls)) (position_at ls k) tells.no_slash (tells.stored (position_at ls k) k (stands k within)) (sym is)
    go (Form.Second j below q is) =
        let at = stands j (omega (arith, below, within)) in
        let same = second_same (snapshot_id name (next_position per ls)) (snapshot_id name (position_at ls j)) is in
        let there = (id_same name name (next_position per ls) (position_at ls j) tells.no_colon tells.no_colon tells.next (tells.stored (position_at ls j) j at) same).1 in
        none-some j (sym (next_unused per ls numbered.some) ∙ ap (index_of ls) there ∙ at)

-- what a response makes of the builder
pub heard_made : (h : Site) (b : Broker) (y i : ℕ) (e : Entry) (id : List ℕ) (answer : ClusterPosition) (u u' : SnapshotBuilder) (g : Progress) → h.own < length h.clusters
    → Numbered b.entries b.ledgers → ReadsNext h b y i e → IsResponse h b y e id answer u → Hears b y i id answer u g u'
    → MadeAfter (length h.clusters) h.own (cluster_name h h.own) b.entries b.ledgers b.builder
    → Made (length h.clusters) h.own (cluster_name h h.own) b.entries b.ledgers u'
heard_made h b y i e id answer u u' g small numbered next is heard m =
    let name = cluster_name h h.own in let n = length h.clusters in
    let lt = slice_get_within b.entries i e next.2 in let whole = numbered.whole in
    subst (λ (r : Heard). Made n h.own name b.entries b.ledgers r.builder) heard
    (heard_more n h.own y i name b.entries b.ledgers u id answer e small (m.making.made u is.2) (m.not_yet u is.2) (record { at = next.2; of = is.0.1; is = is.1 })
    (at_index b.ledgers i (omega (arith, lt, whole))))

abbrev MadeNow : Site → Broker → SnapshotBuilder → Type 0
MadeNow h c u = Made (length h.clusters) h.own (cluster_name h h.own) c.entries c.ledgers u × NotYet h.own c.entries u

one_made : (h : Site) (b : Broker) (p : Plan) → Building h b p → h.own < length h.clusters → Numbered b.entries b.ledgers
    → Telling h.per_ledger (cluster_name h h.own) b.ledgers → MadeAfter (length h.clusters) h.own (cluster_name h h.own) b.entries b.ledgers b.builder
    → (u : SnapshotBuilder) → builder_then b.builder p.changes ≡ Some u → MadeNow h (all_written h.per_ledger b p.writes) u
one_made h b p (Building.Leaves q silent quiet) small numbered tells m u is =
    let n = length h.clusters in let x = h.own in let name = cluster_name h h.own in
    let c = all_written h.per_ledger b p.writes in
    let g = writes_stay h.per_ledger b p.writes numbered in
    let was : b.builder ≡ Some u = sym (quiet_builder h b b.builder p.changes quiet) ∙ is in
    let none : NoneNew x (appended p.writes) (second_id u.id) =
    λ j e at of asks. false≢true (sym (silent_append x p.writes silent j e at) ∙ asks_requests x (second_id u.id) e of asks) in (
      made_grows n x name b.entries c.entries b.ledgers c.ledgers u g (m.making.made u was),
      not_yet_grows x b.entries c.entries b.ledgers c.ledgers u g none (m.not_yet u was),
    )
one_made h b p (Building.Ends q silent ends caches) small numbered tells m u is = absurd (none-some u (sym ends ∙ is))
one_made h b p (Building.Begins none) small numbered tells m u is =
    let n = length h.clusters in let x = h.own in let name = cluster_name h h.own in
    let id = snapshot_id name (next_position h.per_ledger b.ledgers) in
    let e = request_marker h b id in
    let c = all_written h.per_ledger b (write.Append e ∷ []) in
    let r : RequestAt x c.entries (length b.entries) id = record { entry = e; at = get_last b.entries e; of = eq-eqb x x refl; asks = (cluster_ref.Known x, refl) } in
    let at = ap (snapshot_id name) (sym (first_new h.per_ledger b e [] numbered)) in
    let new : NotYet x c.entries (started id x n) = λ round k q.
    elim (old_or_new b.entries (e ∷ []) k q.entry q.at) [
      | inl old ↦ fresh_not_yet h.per_ledger x name b.entries b.ledgers numbered tells m.making.forms k (record { entry = q.entry; at = old.1; of = q.of; asks = q.asks })
      | inr last ↦
          let o = only_new e [] (k - length b.entries) q.entry refl last.1 in
          let same : id ≡ second_id id = ap (λ (f : Entry). asked_id f.content) o.1 ∙ ap asked_id q.asks.1 in
          not_second name id (next_position h.per_ledger b.ledgers) tells.no_slash tells.next same
    ] in
    subst (MadeNow h c) (same_Some _ _ is) (started_made n x name c.entries c.ledgers id (length b.entries) at r, new)
one_made h b p (Building.Counts y i e id answer v u' next response heard) small numbered tells m u is =
    let n = length h.clusters in let x = h.own in let name = cluster_name h h.own in
    let c = all_written h.per_ledger b (write.ReplicatorAck y i ∷ []) in
    let g = writes_stay h.per_ledger b (write.ReplicatorAck y i ∷ []) numbered in
    let later = heard_later b y i id answer progress.Kept v u' heard in
    let grown = made_grows n x name b.entries c.entries b.ledgers c.ledgers u' g (heard_made h b y i e id answer v u' progress.Kept small numbered next response heard m) in
    let none : NotYet x c.entries u' = λ round k r.
    m.not_yet v response.2 (later.later round) k (subst (λ (z : List ℕ). RequestAt x b.entries k (second_id z)) later.same r) in
    subst (MadeNow h c) (same_Some _ _ is) (grown, none)
one_made h b p (Building.AsksAgain y i e id answer v u' next response heard) small numbered tells m u is =
    let n = length h.clusters in let x = h.own in let name = cluster_name h h.own in
    let c = all_written h.per_ledger b (write.Append (request_marker h b (current_id u')) ∷ write.ReplicatorAck y i ∷ []) in
    let g = writes_stay h.per_ledger b (write.Append (request_marker h b (current_id u')) ∷ write.ReplicatorAck y i ∷ []) numbered in
    let later = heard_later b y i id answer progress.SecondRound v u' heard in
    let grown = made_grows n x name b.entries c.entries b.ledgers c.ledgers u' g (heard_made h b y i e id answer v u' progress.SecondRound small numbered next response heard m) in
    let none : NotYet x c.entries u' = λ round. absurd (false≢true (sym round ∙ later.begins refl)) in
    subst (MadeNow h c) (same_Some _ _ is) (grown, none)

written_made : (h : Site) (b : Broker) (p : Plan) → Building h b p → h.own < length h.clusters → Numbered b.entries b.ledgers
    → Telling h.per_ledger (cluster_name h h.own) b.ledgers → MadeAfter (length h.clusters) h.own (cluster_name h h.own) b.entries b.ledgers b.builder
    → (o : Option SnapshotBuilder) → builder_then b.builder p.changes ≡ o
    → MadeAfter (length h.clusters) h.own (cluster_name h h.own) (all_written h.per_ledger b p.writes).entries (all_written h.per_ledger b p.writes).ledgers o
written_made h b p building small numbered tells m o is_o = record {
  making = record { forms = forms; made = λ u is. (one_made h b p building small numbered tells m u (is_o ∙ is)).0 };
  not_yet = λ u is. (one_made h b p building small numbered tells m u (is_o ∙ is)).1;
}
  where
    name : List ℕ
    name = cluster_name h h.own

    forms : AllForms h.own name (all_written h.per_ledger b p.writes).entries (all_written h.per_ledger b p.writes).ledgers
    forms = forms_written h b p.writes (building_requests h b p building) numbered (λ u is. (m.making.made u is).asked) m.making.forms

-- after an event
pub making_done : (h : Site) (b : Broker) (p : Plan) → Building h b p → h.own < length h.clusters → Numbered b.entries b.ledgers
    → Telling h.per_ledger (cluster_name h h.own) b.ledgers → MadeAfter (length h.clusters) h.own (cluster_name h h.own) b.entries b.ledgers b.builder
    → MadeAfter (length h.clusters) h.own (cluster_name h h.own) (done h.per_ledger b p).entries (done h.per_ledger b p).ledgers (done h.per_ledger b p).builder
making_done h b p building small numbered tells m =
    let c = all_written h.per_ledger b p.writes in let d = done h.per_ledger b p in
    let n = length h.clusters in let name = cluster_name h h.own in
    subst (λ (ls : List ℕ). MadeAfter n h.own name d.entries ls d.builder) (sym (all_changed_ledgers c p.changes))
    (subst (λ (es : List Entry). MadeAfter n h.own name es c.ledgers d.builder) (sym (all_changed_entries c p.changes))
    (written_made h b p building small numbered tells m d.builder (sym (done_builder h.per_ledger b p))))

-- after a stop there is no builder
pub making_halted : (h : Site) (b : Broker) (k : ℕ) (p : Plan) → Building h b p → Numbered b.entries b.ledgers
    → Making (length h.clusters) h.own (cluster_name h h.own) b.entries b.ledgers b.builder
    → MadeAfter (length h.clusters) h.own (cluster_name h h.own) (halted h.per_ledger b k p).entries (halted h.per_ledger b k p).ledgers (halted h.per_ledger b k p).builder
making_halted h b k p building numbered m = record {
  making = record {
    forms = forms_written h b (take k p.writes ++ write.Ledger ∷ [])
        (requests_opened h b (take k p.writes) (requests_take h b k p.writes (building_requests h b p building))) numbered (λ u is. (m.made u is).asked) m.forms;
    made = λ u is. absurd (none-some u is);
  };
  not_yet = λ u is. absurd (none-some u is);
}

-- in the midst of its writes the builder is the one before it
pub making_written : (h : Site) (b : Broker) (k : ℕ) (p : Plan) → Building h b p → Numbered b.entries b.ledgers
    → Making (length h.clusters) h.own (cluster_name h h.own) b.entries b.ledgers b.builder
    → Making (length h.clusters) h.own (cluster_name h h.own) (all_written h.per_ledger b (take k p.writes)).entries (all_written h.per_ledger b (take k p.writes)).ledgers (all_written h.per_ledger b (take k p.writes)).builder
making_written h b k p building numbered m =
    let ws = take k p.writes in let c = all_written h.per_ledger b ws in
    let n = length h.clusters in let name = cluster_name h h.own in
    record {
      forms = forms_written h b ws (requests_take h b k p.writes (building_requests h b p building)) numbered (λ u is. (m.made u is).asked) m.forms;
      made = λ u is.
          made_grows n h.own name b.entries c.entries b.ledgers c.ledgers u (writes_stay h.per_ledger b ws numbered)
          (m.made u (sym (all_written_builder h.per_ledger b ws) ∙ is));
    }
