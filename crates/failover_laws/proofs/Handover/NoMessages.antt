-- Settling, snapshots and offers store no message first: what a topic has of messages after them it had before, where all had come over.
use Rattle.std.proofs.Common.{◌≡◌, ℕ, zero, suc, ◌+◌, ◌<◌, ◌≤◌, Bool, true, false, List, [], ◌∷◌, length, map, refl, sym, ap, subst, ◌∙◌, ◌==◌, arith, inl, inr, not}
use Rattle.std.specs.Prelude.{Option, Some, None, ◌-◌, ◌&&◌, nat_lt, if◌then◌else◌, slice_get}
use Rattle.std.proofs.lemmas.Bool.{eq-eqb, eqb-true, false≢true, ltb-true}
use Rattle.std.proofs.lemmas.Option.{none-some, same_Some, slice_get_within}
use Rattle.world_laws.proofs.Types.{Entry, Event, Packet}
use Rattle.world_laws.proofs.Types.event
use Rattle.world_laws.proofs.Types.fate
use Rattle.geo_base.specs.Broker.{Broker, Site}
use Rattle.geo_base.specs.Cursor.{backlog_from, has}
use Rattle.geo_base.specs.Entry.{is_data, with_origin}
use Rattle.geo_base.specs.Forwarding.{is_remote, receipt, reset, take_packet}
use Rattle.geo_base.specs.Happening.{happens}
use Rattle.geo_base.specs.Laws.{ArePair, begun}
use Rattle.geo_base.specs.Plan.{Plan, idle_plan}
use Rattle.geo_base.specs.Planned.{Planned, has_node, has_pair, in_range, planned, planned_in}
use Rattle.geo_base.specs.Run.{no_limits, run_from, steps}
use Rattle.geo_base.specs.Setup.{Setup, sub_name}
use Rattle.geo_base.specs.World.{LinkName, World, node, opening_world, site, topic_at}
use Rattle.world_laws.specs.Reached.{ReachedFrom}
use Rattle.world_laws.proofs.OnceInOrder.Members.{below_or}
use Rattle.world_laws.proofs.Replicating.Pairs.{Replicates, replicates_laws}
use Rattle.world_laws.proofs.Replicating.Prefixes.{is_of, not_twice}
use Rattle.world_laws.proofs.Snapshotting.Answering.{old_or_new}
use Rattle.world_laws.proofs.Snapshotting.Grows.{Grown}
use Rattle.world_laws.proofs.Snapshotting.Hearing.{grown_get, grown_old}
use Rattle.world_laws.proofs.Snapshotting.SnapshotFacts.{out_there}
use Rattle.world_laws.proofs.TopicOrder.Added.{appended, came_other}
use Rattle.world_laws.proofs.TopicOrder.NoSelf.{NoSelf}
use Rattle.world_laws.proofs.TopicOrder.Order.{of_source}
use Rattle.world_laws.proofs.Walks.LinkWalk.{frame_taken, packet_answered}
use Rattle.world_laws.proofs.Walks.OfferWalk.{offer_shape, snap_shape}
use Rattle.world_laws.proofs.Walks.ReadWalk.{read_shape}
use Rattle.world_laws.proofs.Walks.Shapes.{Answered, Offers, Reads, Snaps, Taken, Updates}
use Rattle.world_laws.proofs.Walks.Walk.{on_if, on_test, right}
use Rattle.failover_laws.specs.Procedure.{offers}
use Rattle.failover_laws.proofs.Acting.SwitchedOver.{arrived_at}
use Rattle.failover_laws.proofs.Covers.Known.{grown_on, reached_then, tracing_at}
use Rattle.failover_laws.proofs.Ending.Became.{at_node, Became, became, done_entries}
use Rattle.failover_laws.proofs.Ending.Phase.{AllOver}
use Rattle.failover_laws.proofs.Ending.Settling.{is_settling, IsKeptSettling}

-- ---- plans that store no message first

pub record Silent (own : ℕ) (p : Plan) : Type 0 where
  pub none : (j : ℕ) (e : Entry) → slice_get (appended p.writes) j ≡ Some e → is_of own e ≡ true → is_data e.content ≡ false

nothing : (own : ℕ) (p : Plan) → appended p.writes ≡ [] → Silent own p
nothing own p none = record { none = λ j e at of. absurd (none-some e (sym (ap (λ (es : List Entry). slice_get es j) none) ∙ at)) }

one : (own : ℕ) (p : Plan) (m : Entry) → appended p.writes ≡ m ∷ [] → is_data m.content ≡ false → Silent own p
one own p m only marker = record { none = λ j e at of. go j e (sym (ap (λ (es : List Entry). slice_get es j) only) ∙ at) }
  where
    go : (j : ℕ) (e : Entry) → slice_get (m ∷ []) j ≡ Some e → is_data e.content ≡ false
    go zero e at = subst (λ (x : Entry). is_data x.content ≡ false) (same_Some m e at) marker
    go (suc j) e at = absurd (none-some e at)

came : (own x : ℕ) (p : Plan) (m : Entry) → appended p.writes ≡ with_origin x m ∷ [] → (x ≡ own → ⊥) → Silent own p
came own x p m only other = record { none = λ j e at of. go j e (sym (ap (λ (es : List Entry). slice_get es j) only) ∙ at) of }
  where
    go : (j : ℕ) (e : Entry) → slice_get (with_origin x m ∷ []) j ≡ Some e → is_of own e ≡ true → is_data e.content ≡ false
    go zero e at of = absurd (other (ap (λ (g : Entry). g.ident.origin) (same_Some _ e at) ∙ eqb-true e.ident.origin own of))
    go (suc j) e at of = absurd (none-some e at)

idle_silent : (own : ℕ) → Silent own idle_plan
idle_silent own = nothing own idle_plan refl

reset_silent : (h : Site) (b : Broker) (y : ℕ) → Silent h.own (reset h b y)
unfolding reset
reset_silent h b y = on_if (Silent h.own) (is_remote h y) _ _ (nothing h.own _ refl) (idle_silent h.own)

taken_silent : (h : Site) (b : Broker) (x : ℕ) (p : Packet) (q : Plan) → (x ≡ h.own → ⊥) → Taken h b x p q → Silent h.own q
taken_silent h b x p q other (Taken.Stores id seq source e is at may new) = came h.own x q e refl other
taken_silent h b x p q other (Taken.Unreadable is) = nothing h.own q refl
taken_silent h b x p q other (Taken.Opens topic id request name is opening) = nothing h.own q refl
taken_silent h b x p q other (Taken.Discards shut at) = nothing h.own q refl
taken_silent h b x p q other (Taken.Refuses shut at may) = nothing h.own q refl
taken_silent h b x p q other (Taken.Repeats id seq source e is at may old) = nothing h.own q refl

take_silent : (h : Site) (b : Broker) (x : ℕ) (o : Option Packet) → ((p : Packet) → o ≡ Some p → x ≡ h.own → ⊥) → Silent h.own (take_packet h b x fate.Good o)
unfolding take_packet
take_silent h b x None other = idle_silent h.own
take_silent h b x (Some p) other = taken_silent h b x p _ (other p refl) (frame_taken h b x p p.frame refl)

answered_silent : (own : ℕ) (b : Broker) (y : ℕ) (p : Packet) (q : Plan) → Answered b y p q → Silent own q
answered_silent own b y p q (Answered.Received id n k position at is awaited) = nothing own q refl
answered_silent own b y p q (Answered.Stale other) = nothing own q refl
answered_silent own b y p q (Answered.Other at other) = nothing own q refl
answered_silent own b y p q (Answered.Opened request name at is state) = nothing own q refl
answered_silent own b y p q (Answered.OpenBefore request name at is state) = nothing own q refl
answered_silent own b y p q (Answered.ClosedBefore request name at is state) = nothing own q refl
answered_silent own b y p q (Answered.ReceivedBefore id n position at is awaited) = nothing own q refl

receipt_silent : (h : Site) (b : Broker) (y : ℕ) (o : Option Packet) → Silent h.own (receipt h b y fate.Good o)
unfolding receipt
receipt_silent h b y None = idle_silent h.own
receipt_silent h b y (Some p) = answered_silent h.own b y p _ (packet_answered b y p)

reads_silent : (h : Site) (b : Broker) (y : ℕ) (q : Plan) → Reads h b y q → Silent h.own q
reads_silent h b y q Reads.NothingToRead = idle_silent h.own
reads_silent h b y q (Reads.Forwards i e next out) = nothing h.own q refl
reads_silent h b y q (Reads.Skips i e next other) = nothing h.own q refl
reads_silent h b y q (Reads.Responds i e id source next of is) = one h.own q _ refl refl
reads_silent h b y q (Reads.Counts i e id answer u u' next is heard) = nothing h.own q refl
reads_silent h b y q (Reads.AsksAgain i e id answer u u' next is heard) = one h.own q _ refl refl
reads_silent h b y q (Reads.Completes i e id answer u u' next is heard) = one h.own q _ refl refl
reads_silent h b y q (Reads.CreatesAt i j e n told next is named) = nothing h.own q refl
reads_silent h b y q (Reads.ActsOnUpdate i j e n told v ws next is named Updates.NoUpdate) = nothing h.own q refl
reads_silent h b y q (Reads.ActsOnUpdate i j e n told v ws next is named (Updates.Update cut replicated passed)) = one h.own q _ refl refl

snaps_silent : (h : Site) (b : Broker) (q : Plan) → Snaps h b q → Silent h.own q
snaps_silent h b q Snaps.NothingToAsk = idle_silent h.own
snaps_silent h b q (Snaps.Asks any none) = one h.own q _ refl refl

offers_silent : (h : Site) (b : Broker) (n : List ℕ) (q : Plan) → Offers h b n q → Silent h.own q
offers_silent h b n q Offers.NothingToOffer = idle_silent h.own
offers_silent h b n q (Offers.Gives v i at e due is picked) = nothing h.own q refl
offers_silent h b n q (Offers.SkipsMarker v i e ws due is Updates.NoUpdate) = nothing h.own q refl
offers_silent h b n q (Offers.SkipsMarker v i e ws due is (Updates.Update cut replicated passed)) = one h.own q _ refl refl
offers_silent h b n q (Offers.Caches v i j e c ws due is Updates.NoUpdate) = nothing h.own q refl
offers_silent h b n q (Offers.Caches v i j e c ws due is (Updates.Update cut replicated passed)) = one h.own q _ refl refl

-- ---- events

abbrev SilentAt : Option Planned → Type 0
SilentAt None = Unit {0}
SilentAt (Some q) = q.cluster < q.cluster + 1 → Silent q.cluster q.plan

-- settling, a snapshot, an offer
abbrev pub is_silent : Event → Bool
is_silent (event.Snap t x) = true
is_silent (event.Offer t x n) = true
is_silent e = is_settling e

pair_small : (s : Setup) (u x z : ℕ) → has_pair s u x z ≡ true → z < length s.clusters
pair_small s u x z within = ltb-true z (length s.clusters) (right (has_node s u x) (nat_lt z (length s.clusters)) within)

silent_in : (s : Setup) (w : World) (e : Event) → NoSelf s w → is_silent e ≡ true → in_range s e ≡ true → SilentAt (planned_in s w e)
silent_in s w (event.Reset u a z) none silent within = λ _. reset_silent (site s u a) (topic_at s w u a) z
silent_in s w (event.Take u a z fate.Good) none silent within =
    λ _. take_silent (site s u z) (topic_at s w u z) a _ (λ q next. came_other s w u a z q none (pair_small s u a z within) next)
silent_in s w (event.Take u a z fate.Lost) none silent within = absurd (false≢true silent)
silent_in s w (event.Take u a z fate.Twice) none silent within = absurd (false≢true silent)
silent_in s w (event.Receipt u a z fate.Good) none silent within = λ _. receipt_silent (site s u a) (topic_at s w u a) z _
silent_in s w (event.Receipt u a z fate.Lost) none silent within = absurd (false≢true silent)
silent_in s w (event.Receipt u a z fate.Twice) none silent within = absurd (false≢true silent)
silent_in s w (event.Read u a z) none silent within = λ _. reads_silent (site s u a) (topic_at s w u a) z _ (read_shape (site s u a) (topic_at s w u a) z)
silent_in s w (event.Snap u a) none silent within = λ _. snaps_silent (site s u a) (topic_at s w u a) _ (snap_shape (site s u a) (topic_at s w u a))
silent_in s w (event.Offer u a n) none silent within = λ _. offers_silent (site s u a) (topic_at s w u a) (sub_name s u n) _ (offer_shape (site s u a) (topic_at s w u a) (sub_name s u n))
silent_in s w e none silent within = absurd (false≢true silent)

silent_of : (s : Setup) (w : World) (t a : ℕ) (e : Event) (k : Option LinkName) (q : Plan) → NoSelf s w → is_silent e ≡ true → planned s w e ≡ Some (at_node t a k q) → Silent a q
unfolding planned
silent_of s w t a e k q none silent is =
    let h = on_test SilentAt (in_range s e) (planned_in s w e) None (λ within. silent_in s w e none silent within) (λ _. tt) in subst SilentAt is h (omega arith)

-- ---- worlds: since v no message was stored first

pub record Quiet (s : Setup) (v : World) (t : ℕ) (w : World) : Type 0 where
  pub reached : ReachedFrom s v w
  pub own : (a i : ℕ) (e : Entry) → a < length s.clusters → slice_get (topic_at s w t a).entries i ≡ Some e → is_of a e ≡ true → length (topic_at s v t a).entries ≤ i → is_data e.content ≡ false

pub quiet_start : (s : Setup) (v : World) (t : ℕ) → Quiet s v t v
quiet_start s v t = record { reached = ReachedFrom.Starting; own = λ a i e lt at of le. let small = slice_get_within (topic_at s v t a).entries i e at in absurd (omega (arith, small, le)) }

pub quiet_event : (s : Setup) (v w : World) (t : ℕ) (e : Event) → AllOver s v t → is_silent e ≡ true → Quiet s v t w → Quiet s v t (happens s w e)
quiet_event s v w t e over silent p = record {
  reached = ReachedFrom.AfterEvent w e p.reached;
  own = λ a i f lt at of le. by a (topic_at s (happens s w e) t a) (became s w e t a lt) i f lt at of le;
}
  where
    none : NoSelf s w
    none = (tracing_at s over.scripted w (reached_then s (opening_world s) v w over.reached p.reached)).0.0.0.0.0.0.1

    by : (a : ℕ) (c : Broker) → Became s w e t a c → (i : ℕ) (f : Entry) → a < length s.clusters → slice_get c.entries i ≡ Some f → is_of a f ≡ true
        → length (topic_at s v t a).entries ≤ i → is_data f.content ≡ false
    by a _ Became.Same i f lt at of le = p.own a i f lt at of le
    by a _ (Became.Did k q is) i f lt at of le =
        let b = topic_at s w t a in
        elim (old_or_new b.entries (appended q.writes) i f (subst (λ (es : List Entry). slice_get es i ≡ Some f) (done_entries s.per_ledger b q) at)) [
          | inl old ↦ p.own a i f lt old.1 of le
          | inr new ↦ (silent_of s w t a e k q none silent is).none (i - length b.entries) f new.1 of
        ]

settling_silent : (e : Event) → is_settling e ≡ true → is_silent e ≡ true
settling_silent (event.Reset t x y) h = h
settling_silent (event.Take t x y f) h = h
settling_silent (event.Receipt t x y f) h = h
settling_silent (event.Read t x y) h = h
settling_silent e h = absurd (false≢true h)

pub quiet_kept : (s : Setup) (v : World) (t : ℕ) → AllOver s v t → IsKeptSettling s (Quiet s v t)
quiet_kept s v t over = record {
  event = λ w e settles p. quiet_event s v w t e over (settling_silent e settles) p;
  idle = λ w n p. record { reached = ReachedFrom.Idling w n p.reached; own = p.own };
  round = λ w n p. record { reached = ReachedFrom.AfterRound w n p.reached; own = p.own };
}

pub quiet_offers : (s : Setup) (v : World) (t x num : ℕ) → AllOver s v t → (k : ℕ) (w : World) → Quiet s v t w → Quiet s v t (run_from no_limits s (begun w) (offers k t x num)).world
unfolding steps
quiet_offers s v t x num over zero w p = p
quiet_offers s v t x num over (suc k) w p = quiet_offers s v t x num over k (happens s w (event.Offer t x num)) (quiet_event s v w t (event.Offer t x num) over refl p)

-- so a message that stands anywhere stood there in v
pub was_there : (s : Setup) (v w : World) (t y i : ℕ) (e : Entry) → AllOver s v t → Quiet s v t w → y < length s.clusters → slice_get (topic_at s w t y).entries i ≡ Some e → is_data e.content ≡ true
    → slice_get (topic_at s v t y).entries i ≡ Some e
was_there s v w t y i e over p small at message =
    elim (below_or i (length then_y)) [
      | inl lt ↦ grown_old then_y now_y (topic_at s v t y).ledgers (topic_at s w t y).ledgers (grows t y (over.topic, small)) i e lt at
      | inr le ↦ absurd (new le (y == e.ident.origin) refl)
    ]
  where
    then_y : List Entry
    then_y = (topic_at s v t y).entries

    now_y : List Entry
    now_y = (topic_at s w t y).entries

    grows : Grown s v w
    grows = grown_on s over.scripted v w over.reached p.reached

    replicates : Replicates s w
    replicates = (tracing_at s over.scripted w (reached_then s (opening_world s) v w over.reached p.reached)).0.0.0.0.0.0.0

    new : length then_y ≤ i → (b : Bool) → (y == e.ident.origin) ≡ b → ⊥
    new le true same = false≢true (sym (p.own y i e small at (eq-eqb e.ident.origin y (sym (eqb-true y e.ident.origin same))) le) ∙ message)
    new le false other =
        let a = e.ident.origin in
        let small_a : a < length s.clusters = ((tracing_at s over.scripted w (reached_then s (opening_world s) v w over.reached p.reached)).0.0.0.0.0.1 t y (over.topic, small)).origins i e at in
        let pair : ArePair s a y = (small_a, small, λ is. false≢true (sym other ∙ eq-eqb y a (sym is))) in
        let of : is_of a e ≡ true = eq-eqb a a refl in
        let prefix = (replicates_laws s w replicates).0 t a y pair in
        let source = of_source a y (topic_at s w t a).entries now_y prefix i e at of in
        elim (below_or source.place (length (topic_at s v t a).entries)) [
          | inl less ↦
              let was = grown_old (topic_at s v t a).entries (topic_at s w t a).entries (topic_at s v t a).ledgers (topic_at s w t a).ledgers (grows t a (over.topic, small_a)) source.place e less source.is in
              let out = out_there y a (topic_at s w t a).entries now_y prefix i e at of in
              let there = arrived_at a y (topic_at s v t a).entries then_y source.place e (over.complete a y pair).arrived was out in
              let low = slice_get_within then_y there.place e there.is in
              let now = grown_get then_y now_y (topic_at s v t y).ledgers (topic_at s w t y).ledgers (grows t y (over.topic, small)) there.place e there.is in
              not_twice now_y e (replicates.once (node s t y)) (record { i = there.place; j = i; before = omega (arith, low, le); at_i = now; at_j = at })
          | inr more ↦ false≢true (sym (p.own a source.place e small_a source.is of more) ∙ message)
        ]

-- ---- a backlog of none

pub none_in_backlog : (set : List ℕ) (from : ℕ) (es : List Entry) → ((i : ℕ) (e : Entry) → slice_get es i ≡ Some e → is_data e.content ≡ true → has set (from + i) ≡ true)
    → backlog_from set from (map (λ (e : Entry). is_data e.content) es) ≡ 0
none_in_backlog set from [] h = refl
none_in_backlog set from (a ∷ es) h =
    let rest = none_in_backlog set (from + 1) es (λ i e at message. let same : from + suc i ≡ from + 1 + i = omega arith in subst (λ (k : ℕ). has set k ≡ true) same (h (suc i) e at message)) in
    by (is_data a.content) refl rest
  where
    by : (d : Bool) → is_data a.content ≡ d → backlog_from set (from + 1) (map (λ (e : Entry). is_data e.content) es) ≡ 0
        → (if d && not (has set from) then 1 else 0) + backlog_from set (from + 1) (map (λ (e : Entry). is_data e.content) es) ≡ 0
    by true is rest =
        let same : from + 0 ≡ from = omega arith in let there = subst (λ (k : ℕ). has set k ≡ true) same (h zero a refl is) in
        ap (λ (t : Bool). (if not t then 1 else 0) + backlog_from set (from + 1) (map (λ (e : Entry). is_data e.content) es)) there ∙ (let add : 0 + backlog_from set (from + 1) (map (λ (e : Entry). is_data e.content) es) ≡ backlog_from set (from + 1) (map (λ (e : Entry). is_data e.content) es) = omega arith in add ∙ rest)
    by false is rest = let add : 0 + backlog_from set (from + 1) (map (λ (e : Entry). is_data e.content) es) ≡ backlog_from set (from + 1) (map (λ (e : Entry). is_data e.content) es) = omega arith in add ∙ rest
