-- What a replicator reads lowers the weight of its broker, by more than what it sends weighs.
use Rattle.std.proofs.Common.{◌≡◌, ℕ, zero, suc, ◌+◌, ◌-◌, ◌*◌, ◌<◌, ◌≤◌, Bool, true, false, List, [], ◌∷◌, ◌++◌, length, map, refl, sym, ap, subst, ◌∙◌, ◌==◌, arith, inl, inr, ◌⊎◌}
use Rattle.std.specs.Prelude.{Some, None, if◌then◌else◌, ◌||◌, nat_lt, is_some, slice_get, slice_index_or, slice_set}
use Rattle.std.proofs.Math.Nat.{mul-suc}
use Rattle.std.proofs.lemmas.List.{get_or-set_same, length-set}
use Rattle.std.proofs.lemmas.Nat.{mul-le}
use Rattle.std.proofs.lemmas.Option.{none-some}
use Rattle.world_laws.proofs.Types.{SnapshotBuilder, Entry, Frame, Out, Peer, Position, Progress, ReplicatorState, Write}
use Rattle.world_laws.proofs.Types.change
use Rattle.world_laws.proofs.Types.peer
use Rattle.world_laws.proofs.Types.progress
use Rattle.world_laws.proofs.Types.replicator_state
use Rattle.world_laws.proofs.Types.sub_kind
use Rattle.world_laws.proofs.Types.write
use Rattle.geo_base.specs.Broker.{Broker, Site, replicator_at, sub_named}
use Rattle.geo_base.specs.SnapshotBuilder.{Heard, counts, current_id, judged, on_response, with_response}
use Rattle.geo_base.specs.Cursor.{with_index}
use Rattle.geo_base.specs.Entry.{is_outbound}
use Rattle.geo_base.specs.Markers.{request_marker, response_marker, snapshot_marker}
use Rattle.geo_base.specs.Plan.{Plan, all_changed, all_written, done}
use Rattle.geo_base.specs.Replicator.{Replicator, index_to_read, new_replicator, replicator_sent}
use Rattle.geo_base.specs.Storing.{update_marker}
use Rattle.geo_base.specs.Subscription.{Subscription, new_subscription, with_acks}
use Rattle.geo_base.specs.Topic.{position_at}
use Rattle.geo_base.specs.Updating.{handled, updated_indexes}
use Rattle.world_laws.proofs.Budget.CacheSums.{acked_of, acks_of, caches_le, caches_less}
use Rattle.world_laws.proofs.Budget.Counting.{for_all, plain_cost, pushed_weight, request_cost}
use Rattle.world_laws.proofs.Replicating.Cursors.{next_is}
use Rattle.world_laws.proofs.Walks.Shapes.{Reads, ReadsNext, Updates}
use Rattle.world_laws.proofs.Budget.Tails.{at_new, at_same, from_behind, from_push, sum_at, sum_from}
use Rattle.world_laws.proofs.Walks.Walk.{on_if, on_test}
use Rattle.world_laws.proofs.Budget.Weights.{ahead, arrives, asking, behind, broker_weight, building, cached_in, dear, is_peer, is_request, kept, unread}
use Rattle.geo_base.proofs.Bools.{or_not_first}

-- what is sent
abbrev pub out_weight : ℕ → Frame → Peer → ℕ
out_weight m f (peer.Forward y) = ahead m f
out_weight m f (peer.Broker y) = ahead m f
out_weight m f (peer.Back x) = 1
out_weight m f (peer.Client c) = 0

abbrev pub outs_weight : ℕ → List Out → ℕ
outs_weight m os = sum_from (λ (o : Out). out_weight m o.frame o.to) 0 os

-- a broker's weight and what it sends, after a plan, are less than the weight before
abbrev pub Lighter : ℕ → Site → Broker → Plan → Type 0
Lighter n h b p = broker_weight n h.own (done h.per_ledger b p) + outs_weight (n - 1) p.sent < broker_weight n h.own b

-- a replicator that reads is there
index_from_open : (state : ReplicatorState) (s : Replicator) (k i : ℕ) → index_to_read state s k ≡ Some i → (state ≡ replicator_state.Open) × (s.read_index ≤ i)
index_from_open replicator_state.Open s k i at = (refl, (next_is s.cursor s.read_index (k - s.read_index) i at).low)
index_from_open replicator_state.Opening s k i at = absurd (none-some i at)
index_from_open replicator_state.Closed s k i at = absurd (none-some i at)

abbrev IsClosed : ReplicatorState → Type 0
IsClosed replicator_state.Closed = Unit {0}
IsClosed state = ⊥

closed : replicator_state.Closed ≡ replicator_state.Open → ⊥
closed h = subst IsClosed h tt

open_there : (ss : List Replicator) (y : ℕ) → (slice_index_or ss y new_replicator).state ≡ replicator_state.Open → y < length ss
open_there [] y is = absurd (closed is)
open_there (s ∷ ss) zero is = omega arith
open_there (s ∷ ss) (suc y) is = omega (arith, open_there ss y is)

-- the replicator to y has read up to an index after e
entry_updates : (n x : ℕ) (es : List Entry) (ss : List Replicator) (y i : ℕ) (e : Entry) (s' : Replicator) → is_peer n x y ≡ true → slice_get es i ≡ Some e
    → (slice_index_or ss y new_replicator).read_index ≤ i → s'.read_index ≡ i + 1 → y < length ss
    → sum_at (behind n x es) 0 (slice_set ss y s') + unread (n - 1) x y e ≤ sum_at (behind n x es) 0 ss
entry_updates n x es ss y i e s' peer at le next lt =
    let s = slice_index_or ss y new_replicator in
    let new = at_new (behind n x es) new_replicator 0 y ss s' (λ far. absurd (omega (arith, far, lt))) in
    let place : 0 + y ≡ y = omega arith in
    let next' : s'.read_index ≡ suc i = omega (arith, next) in
    let old = ap (λ (j : ℕ). behind n x es j s) place ∙ ap (λ (b : Bool). if b then sum_from (unread (n - 1) x y) s.read_index es else 0) peer in
    let now =
    ap (λ (j : ℕ). behind n x es j s') place ∙ ap (λ (b : Bool). if b then sum_from (unread (n - 1) x y) s'.read_index es else 0) peer
    ∙ ap (λ (k : ℕ). sum_from (unread (n - 1) x y) k es) next' in
    omega (arith, new, old, now, from_behind (unread (n - 1) x y) s.read_index i es e at le)

abbrev acked : ℕ → Replicator → Replicator
acked i s = record s { cursor = with_index s.cursor i }

-- the replicators when the one to y has acknowledged index i and read it
abbrev with_ack : ℕ → ℕ → List Replicator → List Replicator
with_ack y i ss = slice_set ss y (acked i (slice_index_or ss y new_replicator))

abbrev passed : ℕ → ℕ → List Replicator → List Replicator
passed y i ss = slice_set (with_ack y i ss) y (record (slice_index_or (with_ack y i ss) y new_replicator) { read_index = i + 1 })

-- what the replicators have still to read
abbrev read_left : Site → List Entry → List Replicator → ℕ
read_left h es ss = sum_at (behind (length h.clusters) h.own es) 0 ss

-- what the reading lowers, where it forwards nothing
handled_weight : (h : Site) (b : Broker) (y i : ℕ) (e : Entry) → ReadsNext h b y i e
    → read_left h b.entries (passed y i b.replicators) + unread (length h.clusters - 1) h.own y e ≤ read_left h b.entries b.replicators
handled_weight h b y i e next =
    let n = length h.clusters in
    let s = replicator_at b y in
    let live = index_from_open s.state s (length b.entries) i next.1 in
    let lt = open_there b.replicators y live.0 in
    let same = get_or-set_same b.replicators y (acked i s) new_replicator lt in
    let le = ap (λ (z : Replicator). z.read_index) same in
    let long = length-set b.replicators y (acked i s) in
    let one = at_same (behind n h.own b.entries) new_replicator 0 y b.replicators (acked i s) (λ j. refl) in
    let two =
    entry_updates n h.own b.entries (with_ack y i b.replicators) y i e (record (slice_index_or (with_ack y i b.replicators) y new_replicator) { read_index = i + 1 })
    next.0 next.2 (omega (arith, le, live.1)) refl (omega (arith, long, lt)) in
    omega (arith, one, two)

-- and with an entry appended
appended_weight : (h : Site) (b : Broker) (y i : ℕ) (e f : Entry) (cost : ℕ) → ReadsNext h b y i e
    → ((ss : List Replicator) → for_all (length h.clusters) h.own f ss ≤ cost)
    → read_left h (b.entries ++ f ∷ []) (passed y i b.replicators) + unread (length h.clusters - 1) h.own y e ≤ read_left h b.entries b.replicators + cost
appended_weight h b y i e f cost next most =
    omega (arith, handled_weight h b y i e next, pushed_weight (length h.clusters) h.own b.entries f (passed y i b.replicators), most (passed y i b.replicators))

-- each entry weighs something
unread_least : (m x y : ℕ) (e : Entry) → 1 ≤ unread m x y e
unread_least m x y e = on_if (λ (k : ℕ). 1 ≤ k) (is_outbound x y e) _ _ (omega arith) (omega arith)

unread_out : (m x y : ℕ) (e : Entry) → is_outbound x y e ≡ true → unread m x y e ≡ 3 + arrives m e.content
unread_out m x y e out = ap (λ (b : Bool). if b then 3 + arrives m e.content else 1 + (if e.ident.origin == y then (if is_request e.content then dear m else 0) else 0)) out

unread_request : (m x y : ℕ) (e : Entry) → is_outbound x y e ≡ false → (e.ident.origin == y) ≡ true → is_request e.content ≡ true → unread m x y e ≡ 1 + dear m
unread_request m x y e other of asks =
    ap (λ (b : Bool). if b then 3 + arrives m e.content else 1 + (if e.ident.origin == y then (if is_request e.content then dear m else 0) else 0)) other
    ∙ ap (λ (b : Bool). 1 + (if b then (if is_request e.content then dear m else 0) else 0)) of ∙ ap (λ (b : Bool). 1 + (if b then dear m else 0)) asks

-- what a response makes of a builder's round
abbrev Turns : SnapshotBuilder → Progress → SnapshotBuilder → Type 0
Turns u progress.Kept v = v.second ≡ u.second
Turns u progress.SecondRound v = (u.second ≡ false) × (v.second ≡ true)
Turns u g v = Unit {0}

abbrev TurnsTo : SnapshotBuilder → Heard → Type 0
TurnsTo u r = Turns u r.progress r.builder

judged_turns : (u v : SnapshotBuilder) → v.second ≡ u.second → TurnsTo u (judged v)
judged_turns u v same =
    on_if (TurnsTo u) (nat_lt (length v.heard + 1) v.clusters) _ _ same
    (on_test (TurnsTo u) (v.second || (v.clusters == 2)) _ _ (λ _. tt) (λ h. (sym same ∙ or_not_first v.second (v.clusters == 2) h, refl)))

response_turns : (u : SnapshotBuilder) (id : List ℕ) (c : ℕ) (p q : Position) (g : Progress) (u' : SnapshotBuilder) → on_response u id c p q ≡ record { progress = g; builder = u' } → Turns u g u'
response_turns u id c p q g u' is = subst (TurnsTo u) is (on_if (TurnsTo u) (counts u id c) (judged (with_response u c p q)) (record { progress = progress.Ignored; builder = u })
    (judged_turns u (with_response u c p q) refl) tt)

building_round : (m : ℕ) (u : SnapshotBuilder) (b : Bool) → u.second ≡ b → building m (Some u) ≡ (if b then dear m else asking m + dear m)
building_round m u b is = ap (λ (b : Bool). if b then dear m else asking m + dear m) is

building_least : (m : ℕ) (u : SnapshotBuilder) → dear m ≤ building m (Some u)
building_least m u = on_if (λ (k : ℕ). dear m ≤ k) u.second _ _ (omega arith) (omega arith)

-- one cached snapshot less
dear_less : (d a b : ℕ) → a < b → d * a + d ≤ d * b
dear_less d a b lt = let more = mul-le d (suc a) d b (omega arith) lt in let e = mul-suc d a in omega (arith, more, e)

-- a creation adds no cache
created_caches : (n is : List ℕ) (vs : List Subscription)
    → cached_in (map (acked_of n) (map (acks_of n is) (vs ++ new_subscription n sub_kind.Exclusive true [] ∷ []))) ≤ cached_in vs
created_caches n is vs =
    let v = new_subscription n sub_kind.Exclusive true [] in
    omega (arith, caches_le n is (vs ++ v ∷ []), from_push (λ (v : Subscription). length v.cache) 0 vs v)

-- the sum over the replicators falls by u and rises by c
lighter : (a k o a' k' u c : ℕ) → a + u ≤ a' + c → k + c + o < k' + u → a + k + o < a' + k'
lighter a k o a' k' u c fell rest = omega (arith, fell, rest)

kept_le : (m c c' : ℕ) → c' ≤ c → dear m * c' ≤ dear m * c
kept_le m c c' le = mul-le (dear m) c' (dear m) c (omega arith) le

-- an update that is read: its subscription passes over entries, and an update may follow
passes_lighter : (h : Site) (b : Broker) (y i : ℕ) (e : Entry) (n is : List ℕ) (v : Subscription) (ws : List Write) → h.own < length h.clusters → ReadsNext h b y i e
    → sub_named b.subs n ≡ Some v → Updates h b (with_acks is v) ws → Lighter (length h.clusters) h b (handled y i (write.Acks n is ∷ ws) (change.Acked n ∷ []))
passes_lighter h b y i e n is v _ lt next named Updates.NoUpdate =
    let m = length h.clusters - 1 in
    let vs = map (acked_of n) (map (acks_of n is) b.subs) in
    lighter (read_left h b.entries (passed y i b.replicators)) (kept m vs b.builder) 0 (read_left h b.entries b.replicators) (kept m b.subs b.builder) (unread m h.own y e) 0
    (omega (arith, handled_weight h b y i e next))
    (omega (arith, kept_le m (cached_in b.subs) (cached_in vs) (caches_le n is b.subs), unread_least m h.own y e))
passes_lighter h b y i e n is v _ lt next named (Updates.Update cut replicated last) =
    let m = length h.clusters - 1 in
    let vs = map (acked_of n) (map (acks_of n is) b.subs) in
    let f = update_marker h b (with_acks is v).name cut in
    lighter (read_left h (b.entries ++ f ∷ []) (passed y i b.replicators)) (kept m vs b.builder) 0 (read_left h b.entries b.replicators) (kept m b.subs b.builder)
    (unread m h.own y e) (dear m)
    (appended_weight h b y i e f (dear m) next (λ ss. plain_cost (length h.clusters) h.own f ss lt refl))
    (omega (arith, dear_less (dear m) (cached_in vs) (cached_in b.subs) (caches_less n is v cut b.subs named replicated last), unread_least m h.own y e))

-- one that creates its subscription
creates_lighter : (h : Site) (b : Broker) (y i : ℕ) (e : Entry) (n is : List ℕ) → ReadsNext h b y i e
    → Lighter (length h.clusters) h b (handled y i (write.Create n sub_kind.Exclusive true false ∷ write.Acks n is ∷ []) (change.Acked n ∷ []))
creates_lighter h b y i e n is next =
    on_if After (is_some (sub_named b.subs n)) b (record b { subs = b.subs ++ new_subscription n sub_kind.Exclusive true [] ∷ [] })
    (by b.subs (caches_le n is b.subs)) (by (b.subs ++ new_subscription n sub_kind.Exclusive true [] ∷ []) (created_caches n is b.subs))
  where
    m : ℕ
    m = length h.clusters - 1

    After : Broker → Type 0
    After c =
        broker_weight (length h.clusters) h.own
        (all_changed (all_written h.per_ledger c (write.Acks n is ∷ write.ReplicatorAck y i ∷ [])) (change.Acked n ∷ change.ReadTo y (i + 1) ∷ [])) + 0
        < broker_weight (length h.clusters) h.own b

    by : (us : List Subscription) → cached_in (map (acked_of n) (map (acks_of n is) us)) ≤ cached_in b.subs
        → read_left h b.entries (passed y i b.replicators) + kept m (map (acked_of n) (map (acks_of n is) us)) b.builder + 0
        < read_left h b.entries b.replicators + kept m b.subs b.builder
    by us le =
        let vs = map (acked_of n) (map (acks_of n is) us) in
        lighter (read_left h b.entries (passed y i b.replicators)) (kept m vs b.builder) 0 (read_left h b.entries b.replicators) (kept m b.subs b.builder)
        (unread m h.own y e) 0 (omega (arith, handled_weight h b y i e next)) (omega (arith, kept_le m (cached_in b.subs) (cached_in vs) le, unread_least m h.own y e))

-- what a replicator reads is idle, or it lowers the weight
pub reads_lighter : (h : Site) (b : Broker) (y : ℕ) (p : Plan) → h.own < length h.clusters → Reads h b y p
    → (p.idle ≡ true) ⊎ ((p.idle ≡ false) × Lighter (length h.clusters) h b p)
reads_lighter h b y _ lt Reads.NothingToRead = inl refl
reads_lighter h b y _ lt (Reads.Forwards i e next out) =
    let m = length h.clusters - 1 in
    let k = kept m b.subs b.builder in
    let s = replicator_at b y in
    let live = index_from_open s.state s (length b.entries) i next.1 in
    inr (
      refl,
      lighter (read_left h b.entries (slice_set b.replicators y (replicator_sent i s))) k (2 + arrives m e.content + 0) (read_left h b.entries b.replicators) k (unread m h.own y e) 0
          (omega (
            arith,
            entry_updates (length h.clusters) h.own b.entries b.replicators y i e (replicator_sent i s) next.0 next.2 live.1 refl (open_there b.replicators y live.0),
          ))
          (omega (arith, unread_out m h.own y e out)),
    )
reads_lighter h b y _ lt (Reads.Skips i e next other) =
    let m = length h.clusters - 1 in
    let k = kept m b.subs b.builder in
    inr (
      refl,
      lighter (read_left h b.entries (passed y i b.replicators)) k 0 (read_left h b.entries b.replicators) k (unread m h.own y e) 0
          (omega (arith, handled_weight h b y i e next)) (omega (arith, unread_least m h.own y e)),
    )
reads_lighter h b y _ lt (Reads.Responds i e id source next of is) =
    let m = length h.clusters - 1 in
    let k = kept m b.subs b.builder in
    let f = response_marker h b y id in
    inr (
      refl,
      lighter (read_left h (b.entries ++ f ∷ []) (passed y i b.replicators)) k 0 (read_left h b.entries b.replicators) k (unread m h.own y e) (dear m)
          (appended_weight h b y i e f (dear m) next (λ ss. plain_cost (length h.clusters) h.own f ss lt refl))
          (omega (arith, unread_request m h.own y e of.0 of.1 (ap is_request is))),
    )
reads_lighter h b y _ lt (Reads.Counts i e id answer u u' next is heard) =
    let m = length h.clusters - 1 in
    let turn = response_turns u id y answer.position (position_at b.ledgers i) progress.Kept u' heard in
    let old = ap (building m) is.2 in
    let before = building_round m u u.second refl in
    let now = building_round m u' u.second turn in
    inr (
      refl,
      lighter (read_left h b.entries (passed y i b.replicators)) (kept m b.subs (Some u')) 0 (read_left h b.entries b.replicators) (kept m b.subs b.builder) (unread m h.own y e) 0
          (omega (arith, handled_weight h b y i e next)) (omega (arith, old, before, now, unread_least m h.own y e)),
    )
reads_lighter h b y _ lt (Reads.AsksAgain i e id answer u u' next is heard) =
    let m = length h.clusters - 1 in
    let turn = response_turns u id y answer.position (position_at b.ledgers i) progress.SecondRound u' heard in
    let old = ap (building m) is.2 in
    let before = building_round m u false turn.0 in
    let now = building_round m u' true turn.1 in
    let f = request_marker h b (current_id u') in
    inr (
      refl,
      lighter (read_left h (b.entries ++ f ∷ []) (passed y i b.replicators)) (kept m b.subs (Some u')) 0 (read_left h b.entries b.replicators) (kept m b.subs b.builder)
          (unread m h.own y e) (asking m)
          (appended_weight h b y i e f (asking m) next (λ ss. request_cost (length h.clusters) h.own f ss lt refl))
          (omega (arith, old, before, now, unread_least m h.own y e)),
    )
reads_lighter h b y _ lt (Reads.Completes i e id answer u u' next is heard) =
    let m = length h.clusters - 1 in
    let old = ap (building m) is.2 in
    let f = snapshot_marker h b u' in
    inr (
      refl,
      lighter (read_left h (b.entries ++ f ∷ []) (passed y i b.replicators)) (kept m b.subs None) 0 (read_left h b.entries b.replicators) (kept m b.subs b.builder)
          (unread m h.own y e) (dear m)
          (appended_weight h b y i e f (dear m) next (λ ss. plain_cost (length h.clusters) h.own f ss lt refl))
          (omega (arith, old, building_least m u, unread_least m h.own y e)),
    )
reads_lighter h b y _ lt (Reads.CreatesAt i j e n remote next is named) = inr (refl, creates_lighter h b y i e n (updated_indexes y 0 (j + 1) b.entries) next)
reads_lighter h b y _ lt (Reads.ActsOnUpdate i j e n remote v ws next is named up) =
    inr (refl, passes_lighter h b y i e n (updated_indexes y 0 (j + 1) b.entries) v ws lt next named up)
