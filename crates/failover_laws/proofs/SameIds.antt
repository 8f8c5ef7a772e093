-- Own requests of one id stand at one place: a snapshot that begins has an id that no request has, since its position is new, and its
-- second round is asked for once.
use Rattle.std.proofs.Common.{◌≡◌, ℕ, ◌+◌, ◌-◌, Bool, true, false, List, ◌++◌, length, refl, sym, ap, subst, ◌∙◌, arith, inl, inr, ◌==◌}
use Rattle.std.specs.Prelude.{Some, ◌||◌, if◌then◌else◌, nat_lt, slice_get}
use Rattle.std.proofs.lemmas.Bool.{false≢true}
use Rattle.std.proofs.lemmas.Option.{none-some, slice_get_within}
use Rattle.world_laws.proofs.Types.{SnapshotBuilder, ClusterPosition, Entry, Position, Progress, Write}
use Rattle.world_laws.proofs.Types.progress
use Rattle.geo_base.specs.Broker.{Broker, Site, cluster_name}
use Rattle.geo_base.specs.SnapshotBuilder.{Heard, counts, current_id, judged, on_response, second_id, snapshot_id, with_response}
use Rattle.geo_base.specs.Markers.{request_marker}
use Rattle.geo_base.specs.Plan.{all_written}
use Rattle.geo_base.specs.Topic.{index_of, next_position, position_at}
use Rattle.world_laws.proofs.TopicOrder.Added.{appended}
use Rattle.world_laws.proofs.Snapshotting.Answering.{Asks, Numbered, RequestAt, old_or_new}
use Rattle.world_laws.proofs.Snapshotting.Building.{Requests, heard_later}
use Rattle.world_laws.proofs.Snapshotting.Ids.{id_same, not_second}
use Rattle.world_laws.proofs.TopicOrder.Ledgers.{at_index}
use Rattle.world_laws.proofs.Snapshotting.Making.{MadeAfter, Telling, asked_id, asks_requests, only_new, silent_append, writes_stay}
use Rattle.world_laws.proofs.TopicOrder.NextPosition.{next_unused}
use Rattle.world_laws.proofs.Replicating.Prefixes.{is_of}
use Rattle.world_laws.proofs.Walks.Shapes.{Hears}
use Rattle.world_laws.proofs.Snapshotting.SnapshotFacts.{Form}
use Rattle.world_laws.proofs.Walks.Walk.{on_if, on_test}
use Rattle.geo_base.proofs.Bools.{or_not_first}

abbrev pub SameIds : ℕ → List Entry → Type 0
SameIds x es = (k l : ℕ) (id : List ℕ) → RequestAt x es k id → RequestAt x es l id → k ≡ l

-- ---- a second round is asked for in the first one

abbrev is_second : Progress → Bool
is_second progress.SecondRound = true
is_second g = false

abbrev FromFirst : Bool → Heard → Type 0
FromFirst second r = is_second r.progress ≡ true → second ≡ false

judged_first : (u : SnapshotBuilder) → FromFirst u.second (judged u)
judged_first u =
    on_if (FromFirst u.second) (nat_lt (length u.heard + 1) u.clusters) _ _ (λ is. absurd (false≢true is))
    (on_test (FromFirst u.second) (u.second || (u.clusters == 2)) _ _ (λ done is. absurd (false≢true is)) (λ more is. or_not_first u.second (u.clusters == 2) more))

response_first : (u : SnapshotBuilder) (id : List ℕ) (c : ℕ) (remote local : Position) → FromFirst u.second (on_response u id c remote local)
response_first u id c remote local =
    on_if (FromFirst u.second) (counts u id c) _ _ (judged_first (with_response u c remote local)) (λ is. absurd (false≢true is))

was_first : (b : Broker) (y i : ℕ) (id : List ℕ) (answer : ClusterPosition) (u u' : SnapshotBuilder) → Hears b y i id answer u progress.SecondRound u' → u.second ≡ false
was_first b y i id answer u u' heard = subst (FromFirst u.second) heard (response_first u id y answer.position (position_at b.ledgers i)) refl

-- ---- what is new

abbrev NoneOf : ℕ → List Entry → List ℕ → Type 0
NoneOf x es id = (l : ℕ) → RequestAt x es l id → ⊥

-- the id of a snapshot whose request comes next
fresh_id : (per x : ℕ) (name : List ℕ) (es : List Entry) (ls : List ℕ) → Numbered es ls → Telling per name ls → ((k : ℕ) (id : List ℕ) → RequestAt x es k id → Form name es ls x k id)
    → NoneOf x es (snapshot_id name (next_position per ls))
fresh_id per x name es ls numbered tells forms l r = go (forms l (snapshot_id name (next_position per ls)) r)
  where
    at : index_of ls (position_at ls l) ≡ Some l
    at = let lt = slice_get_within es l r.entry r.at in let whole = numbered.whole in at_index ls l (omega (arith, lt, whole))

    go : Form name es ls x l (snapshot_id name (next_position per ls)) → ⊥
    go (Form.First is) =
        let there = (id_same name name (next_position per ls) (position_at ls l) tells.no_colon tells.no_colon tells.next (tells.stored (position_at ls l) l at) is).1 in
        none-some l (sym (next_unused per ls numbered.some) ∙ ap (index_of ls) there ∙ at)
    go (Form.Second j below q is) = not_second name (snapshot_id name (position_at ls j)) (next_position per ls) tells.no_slash tells.next is

-- an own request that is appended is the first entry that is, and no request had its id
record IsNew (x : ℕ) (es : List Entry) (j : ℕ) (id : List ℕ) : Type 0 where
  first : j ≡ 0
  none : NoneOf x es id

new_request : (h : Site) (b : Broker) (ws : List Write) → Requests h b ws → Numbered b.entries b.ledgers → Telling h.per_ledger (cluster_name h h.own) b.ledgers
    → MadeAfter (length h.clusters) h.own (cluster_name h h.own) b.entries b.ledgers b.builder → (j : ℕ) (id : List ℕ) (e : Entry)
    → slice_get (appended ws) j ≡ Some e → is_of h.own e ≡ true → Asks id e → IsNew h.own b.entries j id
new_request h b ws (Requests.NoRequest vs silent) numbered tells m j id e is of asks =
    absurd (false≢true (sym (silent_append h.own ws silent j e is) ∙ asks_requests h.own id e of asks))
new_request h b ws (Requests.First vs none) numbered tells m j id e is of asks =
    let name = cluster_name h h.own in let first = snapshot_id name (next_position h.per_ledger b.ledgers) in
    let o = only_new (request_marker h b first) (appended vs) j e none is in
    let same : first ≡ id = ap (λ (a : Entry). asked_id a.content) o.1 ∙ ap asked_id asks.1 in
    record { first = o.0; none = subst (NoneOf h.own b.entries) same (fresh_id h.per_ledger h.own name b.entries b.ledgers numbered tells m.making.forms) }
new_request h b ws (Requests.Second y i old answer u u' is_u heard vs none) numbered tells m j id e is of asks =
    let o = only_new (request_marker h b (current_id u')) (appended vs) j e none is in
    let later = heard_later b y i old answer progress.SecondRound u u' heard in
    let current : current_id u' ≡ second_id u.id = ap (λ (t : Bool). if t then second_id u'.id else u'.id) (later.begins refl) ∙ ap second_id later.same in
    let same : second_id u.id ≡ id = sym current ∙ ap (λ (a : Entry). asked_id a.content) o.1 ∙ ap asked_id asks.1 in
    record { first = o.0; none = subst (NoneOf h.own b.entries) same (m.not_yet u is_u (was_first b y i old answer u u' heard)) }

-- after the writes of an event, or a beginning of them
pub ids_written : (h : Site) (b : Broker) (ws : List Write) → Requests h b ws → Numbered b.entries b.ledgers → Telling h.per_ledger (cluster_name h h.own) b.ledgers
    → MadeAfter (length h.clusters) h.own (cluster_name h h.own) b.entries b.ledgers b.builder → SameIds h.own b.entries → SameIds h.own (all_written h.per_ledger b ws).entries
ids_written h b ws asked numbered tells m ids k l id r q =
    elim (old_or_new b.entries (appended ws) k r.entry (subst (At k r.entry) is r.at)) [
      | inl old ↦ elim (old_or_new b.entries (appended ws) l q.entry (subst (At l q.entry) is q.at)) [
        | inl old' ↦ ids k l id (before k r old.1) (before l q old'.1)
        | inr new ↦ absurd ((new_request h b ws asked numbered tells m (l - length b.entries) id q.entry new.1 q.of q.asks).none k (before k r old.1))
      ]
      | inr new ↦ elim (old_or_new b.entries (appended ws) l q.entry (subst (At l q.entry) is q.at)) [
        | inl old ↦ absurd ((new_request h b ws asked numbered tells m (k - length b.entries) id r.entry new.1 r.of r.asks).none l (before l q old.1))
        | inr new' ↦
            let first = (new_request h b ws asked numbered tells m (k - length b.entries) id r.entry new.1 r.of r.asks).first in
            let first' = (new_request h b ws asked numbered tells m (l - length b.entries) id q.entry new'.1 q.of q.asks).first in
            let le = new.0 in let le' = new'.0 in omega (arith, first, first', le, le')
      ]
    ]
  where
    es : List Entry
    es = (all_written h.per_ledger b ws).entries

    is : es ≡ b.entries ++ appended ws
    is = (writes_stay h.per_ledger b ws numbered).is

    At : ℕ → Entry → List Entry → Type 0
    At i e l = slice_get l i ≡ Some e

    before : (i : ℕ) (a : RequestAt h.own es i id) → slice_get b.entries i ≡ Some a.entry → RequestAt h.own b.entries i id
    before i a at = record { entry = a.entry; at = at; of = a.of; asks = a.asks }
