-- What a topic knows of its own requests and of the snapshot that it makes, and that every event keeps it. All over values: the
-- entries and ledgers of one topic, and its builder.
use Rattle.std.proofs.Common.{◌≡◌, ℕ, zero, suc, ◌-◌, ◌<◌, ◌≤◌, Bool, true, false, List, [], ◌∷◌, ◌++◌, length, refl, sym, ap, subst, ◌∙◌, arith, inl, inr}
use Rattle.std.specs.Prelude.{Option, Some, None, ◌&&◌, if◌then◌else◌, slice_get, slice_index_or}
use Rattle.std.proofs.lemmas.Bool.{false≢true}
use Rattle.std.proofs.lemmas.List.{length-replicate}
use Rattle.std.proofs.lemmas.Option.{none-some, same_Some, slice_get_within}
use Rattle.world_laws.proofs.Types.{SnapshotBuilder, Content, Entry, Position, Write}
use Rattle.world_laws.proofs.Types.content
use Rattle.world_laws.proofs.Types.marker
use Rattle.world_laws.proofs.Types.progress
use Rattle.world_laws.proofs.Types.write
use Rattle.geo_base.specs.Broker.{Broker, Site, cluster_name, written}
use Rattle.geo_base.specs.SnapshotBuilder.{current_id, second_id, snapshot_id, started}
use Rattle.geo_base.specs.Cursor.{has}
use Rattle.geo_base.specs.Markers.{request_marker}
use Rattle.geo_base.specs.Plan.{all_written}
use Rattle.geo_base.specs.Topic.{index_of, next_position, position_at}
use Rattle.world_laws.proofs.TopicOrder.Added.{after_is, appended}
use Rattle.world_laws.proofs.Snapshotting.Answering.{Asks, Numbered, RequestAt, is_request, old_or_new, writes_steady}
use Rattle.world_laws.proofs.OnceInOrder.Appends.{written_entries}
use Rattle.world_laws.proofs.Snapshotting.Building.{Requests, Silent, heard_later, requests}
use Rattle.world_laws.proofs.Induction.Frames.{at_copies}
use Rattle.world_laws.proofs.Snapshotting.Hearing.{Stays, request_stays}
use Rattle.world_laws.proofs.Snapshotting.Ids.{IsSmall}
use Rattle.world_laws.proofs.TopicOrder.Ledgers.{at_index, position_is}
use Rattle.world_laws.proofs.TopicOrder.NextPosition.{next_stands}
use Rattle.world_laws.proofs.Replicating.Prefixes.{is_of}
use Rattle.world_laws.proofs.Snapshotting.SnapshotFacts.{Form, Made, NotYet}

abbrev pub AllForms : ℕ → List ℕ → List Entry → List ℕ → Type 0
AllForms x name es ls = (k : ℕ) (id : List ℕ) → RequestAt x es k id → Form name es ls x k id

-- the id that a builder asks for is that of an own request
abbrev pub IsAsked : ℕ → List ℕ → List Entry → List ℕ → SnapshotBuilder → Type 0
IsAsked x name es ls u = (k : ℕ) × (u.id ≡ snapshot_id name (position_at ls k)) × RequestAt x es k u.id

-- WRITES

abbrev pub writes_stay : (per : ℕ) (b : Broker) (ws : List Write) → Numbered b.entries b.ledgers
    → Stays b.entries (all_written per b ws).entries b.ledgers (all_written per b ws).ledgers
writes_stay per b ws numbered = record {
  more = appended ws;
  is = written_entries per b ws ∙ after_is b.entries ws;
  position = λ k lt.
      let whole = numbered.whole in
      position_is (all_written per b ws).ledgers (position_at b.ledgers k) k
      ((writes_steady per b ws numbered).index (position_at b.ledgers k) k (at_index b.ledgers k (omega (arith, lt, whole))));
  index = (writes_steady per b ws numbered).index;
}

-- a form whose request is not the newest
form_stays : (x k : ℕ) (name : List ℕ) (es es' : List Entry) (ls ls' : List ℕ) (id : List ℕ) → Stays es es' ls ls' → k < length es → Form name es ls x k id
    → Form name es' ls' x k id
form_stays x k name es es' ls ls' id g lt (Form.First is) = Form.First (is ∙ ap (snapshot_id name) (sym (g.position k lt)))
form_stays x k name es es' ls ls' id g lt (Form.Second j below r is) =
    let same : snapshot_id name (position_at ls j) ≡ snapshot_id name (position_at ls' j) = ap (snapshot_id name) (sym (g.position j (omega (arith, below, lt)))) in
    let R : List ℕ → Type 0 = λ i. RequestAt x es' j i in
    Form.Second j below (subst R same (request_stays x j es es' ls ls' (snapshot_id name (position_at ls j)) g r)) (is ∙ ap second_id same)

-- the newest one
abbrev pub asked_id : Content → List ℕ
asked_id (content.Marked (marker.Request id source)) = id
asked_id c = []

pub silent_append : (own : ℕ) (ws : List Write) → Silent own ws → (j : ℕ) (e : Entry) → slice_get (appended ws) j ≡ Some e → requests own e ≡ false
silent_append own [] h j e at = absurd (none-some e at)
silent_append own (write.Append f ∷ ws) h zero e at = subst (λ (a : Entry). requests own a ≡ false) (same_Some _ _ at) h.0
silent_append own (write.Append f ∷ ws) h (suc j) e at = silent_append own ws h.1 j e at
silent_append own (write.Create n kind replicated latest ∷ ws) h j e at = silent_append own ws h.1 j e at
silent_append own (write.Alter n kind replicated ∷ ws) h j e at = silent_append own ws h.1 j e at
silent_append own (write.Delete n ∷ ws) h j e at = silent_append own ws h.1 j e at
silent_append own (write.Acks n is ∷ ws) h j e at = silent_append own ws h.1 j e at
silent_append own (write.Seek n i ∷ ws) h j e at = silent_append own ws h.1 j e at
silent_append own (write.ReplicatorAck y i ∷ ws) h j e at = silent_append own ws h.1 j e at
silent_append own (write.SessionNumber y n ∷ ws) h j e at = silent_append own ws h.1 j e at
silent_append own (write.Ledger ∷ ws) h j e at = silent_append own ws h.1 j e at

pub asks_requests : (own : ℕ) (id : List ℕ) (e : Entry) → is_of own e ≡ true → Asks id e → requests own e ≡ true
asks_requests own id e of asks = ap (λ (c : Content). is_request c && is_of own e) asks.1 ∙ of

pub only_new : (f : Entry) (more : List Entry) (j : ℕ) (e : Entry) → more ≡ [] → slice_get (f ∷ more) j ≡ Some e → (j ≡ 0) × (f ≡ e)
only_new f more zero e none at = (refl, same_Some _ _ at)
only_new f more (suc j) e none at = absurd (none-some e (subst (λ (l : List Entry). slice_get l j ≡ Some e) none at))

-- the entry that is appended first stands at the position that was next
pub first_new : (per : ℕ) (b : Broker) (e : Entry) (ws : List Write) → Numbered b.entries b.ledgers
    → position_at (all_written per b (write.Append e ∷ ws)).ledgers (length b.entries) ≡ next_position per b.ledgers
first_new per b e ws numbered =
    let c = written per b (write.Append e) in
    let after = (writes_steady per b (write.Append e ∷ []) numbered).numbered in
    let at : index_of c.ledgers (next_position per b.ledgers) ≡ Some (length b.entries) =
    next_stands per b.ledgers numbered.some ∙ ap (λ (n : ℕ). Some n) numbered.whole in
    position_is (all_written per c ws).ledgers (next_position per b.ledgers) (length b.entries)
    ((writes_steady per c ws after).index (next_position per b.ledgers) (length b.entries) at)

new_form : (h : Site) (b : Broker) (ws : List Write) → Requests h b ws → Numbered b.entries b.ledgers
    → ((u : SnapshotBuilder) → b.builder ≡ Some u → IsAsked h.own (cluster_name h h.own) b.entries b.ledgers u) → (k : ℕ) (id : List ℕ) (e : Entry)
    → length b.entries ≤ k → slice_get (appended ws) (k - length b.entries) ≡ Some e → is_of h.own e ≡ true → Asks id e
    → Form (cluster_name h h.own) (all_written h.per_ledger b ws).entries (all_written h.per_ledger b ws).ledgers h.own k id
new_form h b ws (Requests.NoRequest vs silent) numbered builder k id e le is of asks =
    absurd (false≢true (sym (silent_append h.own ws silent (k - length b.entries) e is) ∙ asks_requests h.own id e of asks))
new_form h b ws (Requests.First vs none) numbered builder k id e le is of asks =
    let name = cluster_name h h.own in
    let f = request_marker h b (snapshot_id name (next_position h.per_ledger b.ledgers)) in
    let b' = all_written h.per_ledger b (write.Append f ∷ vs) in
    let o = only_new f (appended vs) (k - length b.entries) e none is in
    let same : snapshot_id name (next_position h.per_ledger b.ledgers) ≡ id = ap (λ (a : Entry). asked_id a.content) o.1 ∙ ap asked_id asks.1 in
    let here : length b.entries ≡ k = omega (arith, le, o.0) in
    let P : ℕ → Type 0 = λ n. position_at b'.ledgers n ≡ next_position h.per_ledger b.ledgers in
    let p : P k = subst P here (first_new h.per_ledger b f vs numbered) in
    Form.First (sym same ∙ ap (snapshot_id name) (sym p))
new_form h b ws (Requests.Second y i old answer u u' is_u heard vs none) numbered builder k id e le is of asks =
    let name = cluster_name h h.own in
    let f = request_marker h b (current_id u') in
    let b' = all_written h.per_ledger b (write.Append f ∷ vs) in
    let g = writes_stay h.per_ledger b (write.Append f ∷ vs) numbered in
    let o = only_new f (appended vs) (k - length b.entries) e none is in
    let later = heard_later b y i old answer progress.SecondRound u u' heard in
    let current : current_id u' ≡ second_id u.id = ap (λ (t : Bool). if t then second_id u'.id else u'.id) (later.begins refl) ∙ ap second_id later.same in
    let same : second_id u.id ≡ id = sym current ∙ ap (λ (a : Entry). asked_id a.content) o.1 ∙ ap asked_id asks.1 in
    let a = builder u is_u in
    let lt = slice_get_within b.entries a.0 a.2.entry a.2.at in
    let id_is : u.id ≡ snapshot_id name (position_at b'.ledgers a.0) = a.1 ∙ ap (snapshot_id name) (sym (g.position a.0 lt)) in
    let R : List ℕ → Type 0 = λ i. RequestAt h.own b'.entries a.0 i in
    Form.Second a.0 (omega (arith, lt, le)) (subst R id_is (request_stays h.own a.0 b.entries b'.entries b.ledgers b'.ledgers u.id g a.2)) (sym same ∙ ap second_id id_is)

-- what an event appends, or a beginning of it, has the forms of requests
pub forms_written : (h : Site) (b : Broker) (ws : List Write) → Requests h b ws → Numbered b.entries b.ledgers
    → ((u : SnapshotBuilder) → b.builder ≡ Some u → IsAsked h.own (cluster_name h h.own) b.entries b.ledgers u)
    → AllForms h.own (cluster_name h h.own) b.entries b.ledgers
    → AllForms h.own (cluster_name h h.own) (all_written h.per_ledger b ws).entries (all_written h.per_ledger b ws).ledgers
forms_written h b ws asked numbered builder forms k id r =
    let name = cluster_name h h.own in
    let b' = all_written h.per_ledger b ws in
    let g = writes_stay h.per_ledger b ws numbered in
    let P : List Entry → Type 0 = λ l. slice_get l k ≡ Some r.entry in
    elim (old_or_new b.entries (appended ws) k r.entry (subst P g.is r.at)) [
      | inl old ↦
          form_stays h.own k name b.entries b'.entries b.ledgers b'.ledgers id g old.0 (forms k id (record { entry = r.entry; at = old.1; of = r.of; asks = r.asks }))
      | inr new ↦ new_form h b ws asked numbered builder k id r.entry new.0 new.1 r.of r.asks
    ]

-- EVENTS

-- of one topic, and of its builder
pub record Making (n x : ℕ) (name : List ℕ) (es : List Entry) (ls : List ℕ) (o : Option SnapshotBuilder) : Type 0 where
  pub forms : AllForms x name es ls
  pub made : (u : SnapshotBuilder) → o ≡ Some u → Made n x name es ls u

abbrev pub NoneYet : ℕ → List Entry → Option SnapshotBuilder → Type 0
NoneYet x es o = (u : SnapshotBuilder) → o ≡ Some u → NotYet x es u

-- its ids tell requests apart
pub record Telling (per : ℕ) (name : List ℕ) (ls : List ℕ) : Type 0 where
  pub no_colon : has name 58 ≡ false
  pub no_slash : has name 47 ≡ false
  pub stored : (p : Position) (i : ℕ) → index_of ls p ≡ Some i → IsSmall p
  pub next : IsSmall (next_position per ls)

pub record MadeAfter (n x : ℕ) (name : List ℕ) (es : List Entry) (ls : List ℕ) (o : Option SnapshotBuilder) : Type 0 where
  pub making : Making n x name es ls o
  pub not_yet : NoneYet x es o

-- no own request that was appended asks for an id
abbrev pub NoneNew : ℕ → List Entry → List ℕ → Type 0
NoneNew x more id = (j : ℕ) (e : Entry) → slice_get more j ≡ Some e → is_of x e ≡ true → Asks id e → ⊥

pub not_yet_grows : (x : ℕ) (es es' : List Entry) (ls ls' : List ℕ) (u : SnapshotBuilder) (g : Stays es es' ls ls') → NoneNew x g.more (second_id u.id) → NotYet x es u → NotYet x es' u
not_yet_grows x es es' ls ls' u g none h round k r =
    let at : slice_get (es ++ g.more) k ≡ Some r.entry = let P : List Entry → Type 0 = λ l. slice_get l k ≡ Some r.entry in subst P g.is r.at in
    elim (old_or_new es g.more k r.entry at) [
      | inl old ↦ h round k (record { entry = r.entry; at = old.1; of = r.of; asks = r.asks })
      | inr new ↦ none (k - length es) r.entry new.1 r.of r.asks
    ]

-- a snapshot that begins
pub started_made : (n x : ℕ) (name : List ℕ) (es : List Entry) (ls : List ℕ) (id : List ℕ) (k : ℕ) → id ≡ snapshot_id name (position_at ls k) → RequestAt x es k id
    → Made n x name es ls (started id x n)
started_made n x name es ls id k is r = record {
  own = refl;
  clusters = refl;
  asked = (k, is, r);
  places = length-replicate n None;
  empty = nothing x;
  others = λ c h. absurd (false≢true h);
  distinct = refl;
  local = λ some. elim some [ inl second ↦ absurd (false≢true second) | inr heard ↦ absurd (omega (arith, heard)) ];
  zero = λ round none. refl;
  first = λ y p kept. absurd (none-some p (sym (nothing y) ∙ kept));
  one = λ round c h. absurd (false≢true h);
  all = λ second. absurd (false≢true second);
  again = λ second. absurd (false≢true second);
}
  where
    nothing : (y : ℕ) → slice_index_or (started id x n).cut.remote y None ≡ None
    nothing y = at_copies (λ (o : Option Position). o ≡ None) n y None None refl refl
