-- What the lines of one plan settle, and what its event settles: no more, and no less but for what is settled already.
use Rattle.std.proofs.Common.{◌≡◌, ℕ, zero, suc, ◌+◌, ◌<◌, Bool, true, false, List, [], ◌∷◌, ◌++◌, length, map, refl, sym, ap, subst, ◌∙◌, ◌==◌, arith, inl, inr}
use Rattle.std.specs.Prelude.{◌&&◌, ◌⊎◌, Option, Some, None, if◌then◌else◌, is_some, nat_lt, take}
use Rattle.std.specs.List.{list_any}
use Rattle.std.specs.Str.{bytes_eq}
use Rattle.std.proofs.lemmas.Bool.{eqb-true, false≢true, lt-ltb, ltb-true}
use Rattle.std.proofs.lemmas.List.{append_assoc}
use Rattle.std.proofs.lemmas.Option.{same_Some}
use Rattle.std.proofs.lemmas.Slice.Eq.{bytes_eq-Decides}
use Rattle.world_laws.proofs.Types.{Entry, Event, Ident, Packet, Position, Write}
use Rattle.world_laws.proofs.Types.event
use Rattle.geo_base.specs.declared.planned.Cause.{Cause}
use Rattle.geo_base.specs.declared.planned.Cause.TheVariants as cause
use Rattle.geo_base.specs.Audit.{settled_from}
use Rattle.geo_base.specs.Broker.{Broker, session_at, sub_named}
use Rattle.geo_base.specs.Cursor.{has}
use Rattle.geo_base.specs.Entry.{is_data, same_ident}
use Rattle.geo_base.specs.Happening.{halts_planned, happens}
use Rattle.geo_base.specs.Link.{next_packet}
use Rattle.geo_base.specs.Mirror.{Mirrors, mirror_at, mirror_number, settled_by, told}
use Rattle.geo_base.specs.Planned.{Planned, has_client, has_node, has_sub, in_range, planned, planned_in}
use Rattle.geo_base.specs.Run.{Ran, all_limits, settles}
use Rattle.geo_base.specs.Safe.{OnlySettled}
use Rattle.geo_base.specs.Seeking.{restart, seek}
use Rattle.geo_base.specs.Serving.{drop_client, serve}
use Rattle.geo_base.specs.Settled.{IsSettled, SettledSoFar, messages_at, settled_behind, settled_by_packet, settled_by_seek, settled_event}
use Rattle.geo_base.specs.Setup.{Setup, declared_at, sub_name, topic_name}
use Rattle.geo_base.specs.Subscription.{Subscription}
use Rattle.geo_base.specs.TraceItems.{Begins, Item}
use Rattle.geo_base.specs.Traced.{acts_of, all_writes, cause_of, cursor_of, event_items, halt_items, planned_items, settling_items, told_at, unless_ended}
use Rattle.geo_base.specs.World.{ToBroker, World, link_at, site, topic_at}
use Rattle.world_laws.proofs.Telling.Announcing.{find_stands}
use Rattle.world_laws.proofs.Snapshotting.Asked.{named}
use Rattle.world_laws.proofs.Replicating.Effects.{Each, each_take}
use Rattle.world_laws.proofs.Walks.EventWalk.{of_node, of_sub}
use Rattle.world_laws.proofs.KeptRuns.Loaded.{Tables}
use Rattle.world_laws.proofs.Walks.OfferWalk.{offer_shape, snap_shape}
use Rattle.world_laws.proofs.Telling.QuietTells.{settles_none}
use Rattle.world_laws.proofs.Walks.ReadWalk.{read_shape}
use Rattle.world_laws.proofs.Telling.ServeTells.{seek_settles, serve_settles}
use Rattle.world_laws.proofs.Replicating.Sizes.{IsThere}
use Rattle.world_laws.proofs.Telling.Told.{Includes}
use Rattle.world_laws.proofs.Walks.Walk.{left, on_false, on_if, on_test, on_true, right}
use Rattle.trace_laws.specs.Audited.{all_told}
use Rattle.trace_laws.specs.Seen.{seen, world_seen}
use Rattle.trace_laws.proofs.Events.{Whole}
use Rattle.trace_laws.proofs.SettledEvents.{Among, Lines, WasThere, drops_quiet, names_out, receipts_quiet, resets_quiet, seeks_in, serve_named, serves_in, snaps_quiet, takes_quiet}
use Rattle.trace_laws.proofs.Settling.{AmongIndexes, Named as NamedBy, QuietWrite, among_index, offers_quiet, quiet_items, reads_quiet, seek_named}
use Rattle.trace_laws.proofs.Strays.{nothing_sent}
use Rattle.trace_laws.proofs.Same.{idents_are}
use Rattle.trace_laws.proofs.Writes.{seen_at}

abbrev pub the_none : List Ident
the_none = []

-- ---- lines after lines

pub lines_append : (s : Setup) (a : Mirrors) (is js : List Item) (t : ℕ) (n : List ℕ) → settled_from s a (is ++ js) t n ≡ settled_from s a is t n ++ settled_from s (all_told s a is) js t n
lines_append s a [] js t n = refl
lines_append s a (i ∷ is) js t n =
    ap (λ (l : List Ident). settled_by s a i t n ++ l) (lines_append s (told s a i) is js t n)
    ∙ sym (append_assoc (settled_by s a i t n) (settled_from s (told s a i) is t n) (settled_from s (all_told s (told s a i) is) js t n))

-- lines that settle nothing, whatever comes before them
abbrev pub Silent : Setup → List Item → Type 0
Silent s is = (a : Mirrors) (t : ℕ) (n : List ℕ) → settled_from s a is t n ≡ []

pub silent_both : (s : Setup) (is js : List Item) → Silent s is → Silent s js → Silent s (is ++ js)
silent_both s is js h k a t n = lines_append s a is js t n ∙ (ap (λ (l : List Ident). l ++ settled_from s (all_told s a is) js t n) (h a t n) ∙ k (all_told s a is) t n)

pub silent_unless : (s : Setup) (r : Ran) (is : List Item) → Silent s is → Silent s (unless_ended r is)
silent_unless s r is h = on_if (Silent s) (is_some r.ended) [] is (λ a t n. refl) h

pub silent_begins : (s : Setup) (m : ℕ) (is : List Item) → Silent s is → Silent s (Begins m ∷ is)
silent_begins s m is h a t n = h (told s a (Begins m)) t n

-- ---- events that settle nothing

pub plan_quiet : (s : Setup) (t x : ℕ) (c : Cause) (b : Broker) (k : ℕ) (ws : List Write) → Each (QuietWrite c) ws → Silent s (told_at t x (acts_of (site s t x) c b (take k ws)))
plan_quiet s t x c b k ws q a u n = quiet_items s (site s t x) t x c u n b (take k ws) a (each_take (QuietWrite c) k ws q)

pub quiet_in : (s : Setup) (w : World) (k : ℕ) (e : Event) → settles_none e ≡ true → Silent s (planned_items s w k e (planned_in s w e))
unfolding drop_client restart
quiet_in s w k (event.Serve x c) h = absurd (false≢true h)
quiet_in s w k (event.Seek t x m to) h = absurd (false≢true h)
quiet_in s w k (event.Drop x c) h =
    let t = (declared_at s c).topic in plan_quiet s t x cause.Client (topic_at s w t x) k _ (drops_quiet c (session_at (topic_at s w t x) c) cause.Client)
quiet_in s w k (event.Reset t x y) h = plan_quiet s t x cause.Client (topic_at s w t x) k _ (resets_quiet (site s t x) (topic_at s w t x) y cause.Client)
quiet_in s w k (event.Read t x y) h =
    let b = topic_at s w t x in plan_quiet s t x (cause_of b (event.Read t x y)) b k _ (reads_quiet (site s t x) b y _ (read_shape (site s t x) b y))
quiet_in s w k (event.Take t x y f) h = plan_quiet s t y cause.Client (topic_at s w t y) k _ (takes_quiet (site s t y) (topic_at s w t y) x f _ cause.Client)
quiet_in s w k (event.Receipt t x y f) h = plan_quiet s t x cause.Client (topic_at s w t x) k _ (receipts_quiet (site s t x) (topic_at s w t x) y f _ cause.Client)
quiet_in s w k (event.Snap t x) h =
    let b = topic_at s w t x in plan_quiet s t x cause.Client b k _ (snaps_quiet (site s t x) b _ cause.Client (snap_shape (site s t x) b))
quiet_in s w k (event.Offer t x m) h =
    let b = topic_at s w t x in plan_quiet s t x cause.Marker b k _ (offers_quiet (site s t x) b (sub_name s t m) _ (offer_shape (site s t x) b (sub_name s t m)))
quiet_in s w k (event.Restart t x) h = plan_quiet s t x cause.Client (topic_at s w t x) k _ (tt, tt)
quiet_in s w k (event.Go c) h = λ a t n. refl
quiet_in s w k (event.Get c) h = λ a t n. refl
quiet_in s w k (event.Reconnect c) h = λ a t n. refl

pub quiet_planned : (s : Setup) (w : World) (k : ℕ) (e : Event) → settles_none e ≡ true → Silent s (planned_items s w k e (planned s w e))
unfolding planned
quiet_planned s w k e h = on_if (λ (o : Option Planned). Silent s (planned_items s w k e o)) (in_range s e) (planned_in s w e) None (quiet_in s w k e h) (λ a t n. refl)

pub quiet_event : (s : Setup) (w : World) (e : Event) → settles_none e ≡ true → Silent s (event_items s w e)
unfolding event_items
quiet_event s w e h =
    on_if (Silent s) ((happens s w e).events == w.events) [] (Begins (w.events + 1) ∷ planned_items s w (all_writes (planned s w e)) e (planned s w e)) (λ a t n. refl) (silent_begins s (w.events + 1) (planned_items s w (all_writes (planned s w e)) e (planned s w e)) (quiet_planned s w (all_writes (planned s w e)) e h))

pub settling_quiet : (s : Setup) (r : Ran) (es : List Event) → Each (λ e. settles_none e ≡ true) es → Silent s (settling_items all_limits s r es)
settling_quiet s r [] h = λ a t n. refl
settling_quiet s r (e ∷ es) h =
    let r' : Ran = settles all_limits s r e in
    silent_both s (unless_ended r' (event_items s r.world e)) (settling_items all_limits s r' es) (silent_unless s r' (event_items s r.world e) (quiet_event s r.world e h.0)) (settling_quiet s r' es h.1)

-- ---- THE LINES OF AN EVENT, after its first k writes, m being its number

abbrev pub EventLines : Setup → World → ℕ → ℕ → Event → Option Planned → SettledSoFar
EventLines s w m k e o u n = settled_from s (record { topics = map seen w.brokers; events = m }) (planned_items s w k e o) u n

pub mirror_seen : (s : Setup) (w : World) (m t x : ℕ) → mirror_at s (record { topics = map seen w.brokers; events = m }) t x ≡ seen (topic_at s w t x)
mirror_seen s w m t x = seen_at w.brokers (mirror_number s t x)

pub serve_there : (s : Setup) (w : World) (x c : ℕ) → Whole s w → (nat_lt x (length s.clusters) && has_client s c) ≡ true → IsThere s (declared_at s c).topic x
serve_there s w x c a within =
    (a.declared c (right (nat_lt x (length s.clusters)) (has_client s c) within), ltb-true x (length s.clusters) (left (nat_lt x (length s.clusters)) (has_client s c) within))

pub topic_there : (s : Setup) (t x : ℕ) → has_node s t x ≡ true → IsThere s t x
topic_there s t x h = (ltb-true t (length s.topics) (left (nat_lt t (length s.topics)) (nat_lt x (length s.clusters)) h), ltb-true x (length s.clusters) (of_node s t x h))

-- ---- settle no more

pub lines_in : (s : Setup) (w : World) (m k : ℕ) (e : Event) → in_range s e ≡ true → Whole s w → Includes (EventLines s w m k e (planned_in s w e)) (λ u n. settled_behind k s w u n e)
lines_in s w m zero (event.Serve x c) within a u n f h = absurd (false≢true h)
lines_in s w m (suc j) (event.Serve x c) within a u n f h =
    let e = event.Serve x c in let t = (declared_at s c).topic in let there = serve_there s w x c a within in
    let b = topic_at s w t x in let o = next_packet (link_at w.links (ToBroker c x)) in
    subst (Among f) (sym (on_true (nat_lt 0 (suc j)) (settled_event s w u n e) [] (lt-ltb 0 (suc j) (omega arith))))
    (serves_in s (record { topics = map seen w.brokers; events = m }) t x c (suc j) b o (λ v l. settled_event s w v l e) (mirror_seen s w m t x) ((a.here t x there).knows.answers t x there).numbered
    (λ l g among. subst (Among g) (sym (serve_settles s w x c l)) among) u n f h)
lines_in s w m zero (event.Seek t x l to) within a u n f h = absurd (false≢true h)
lines_in s w m (suc j) (event.Seek t x l to) within a u n f h =
    let e = event.Seek t x l to in let there = topic_there s t x (of_sub s t x l within) in let b = topic_at s w t x in
    subst (Among f) (sym (on_true (nat_lt 0 (suc j)) (settled_event s w u n e) [] (lt-ltb 0 (suc j) (omega arith))))
    (seeks_in s (record { topics = map seen w.brokers; events = m }) t x (suc j) b (sub_name s t l) to (λ v p. settled_event s w v p e) (mirror_seen s w m t x)
    ((a.here t x there).knows.answers t x there).numbered (λ g among. subst (Among g) (sym (seek_settles s w t x l to within)) among) u n f h)
lines_in s w m k e within a u n f h = absurd (false≢true (subst (Among f) (quiet_in s w k e refl (record { topics = map seen w.brokers; events = m }) u n) h))

pub planned_in_only : (s : Setup) (w : World) (m k : ℕ) (e : Event) → Whole s w → Includes (EventLines s w m k e (planned s w e)) (λ u n. settled_behind k s w u n e)
unfolding planned
planned_in_only s w m k e a =
    on_test (λ (o : Option Planned). Includes (EventLines s w m k e o) (λ u n. settled_behind k s w u n e)) (in_range s e) (planned_in s w e) None (λ within. lines_in s w m k e within a)
    (λ out u n f h. absurd (false≢true h))

pub nothing_in : (s : Setup) (a : Mirrors) (more : SettledSoFar) → Includes (λ u n. settled_from s a [] u n) more
nothing_in s a more u n f h = absurd (false≢true h)

pub behind_less : (s : Setup) (w : World) (k : ℕ) (e : Event) → Includes (λ u n. settled_behind k s w u n e) (λ u n. settled_event s w u n e)
behind_less s w k e u n f h = by (nat_lt 0 k) h
  where
    by : (b : Bool) → Among f (if b then settled_event s w u n e else []) → Among f (settled_event s w u n e)
    by true g = g
    by false g = absurd (false≢true g)

pub event_in : (s : Setup) (w : World) (e : Event) → Whole s w → Includes (λ u n. settled_from s (world_seen w) (event_items s w e) u n) (λ u n. settled_event s w u n e)
unfolding event_items
event_in s w e a =
    let k = all_writes (planned s w e) in
    on_if (λ (is : List Item). Includes (λ u n. settled_from s (world_seen w) is u n) (λ u n. settled_event s w u n e)) ((happens s w e).events == w.events) []
    (Begins (w.events + 1) ∷ planned_items s w k e (planned s w e)) (nothing_in s (world_seen w) (λ u n. settled_event s w u n e))
    (λ u n f h. behind_less s w k e u n f (planned_in_only s w (w.events + 1) k e a u n f h))

pub halt_in : (s : Setup) (w : World) (k : ℕ) (e : Event) → Whole s w → Includes (λ u n. settled_from s (world_seen w) (halt_items s w k e) u n) (λ u n. settled_behind k s w u n e)
unfolding halt_items
halt_in s w k e a =
    on_if (λ (is : List Item). Includes (λ u n. settled_from s (world_seen w) is u n) (λ u n. settled_behind k s w u n e)) ((halts_planned s w k (planned s w e)).events == w.events) []
    (Begins (w.events + 1) ∷ planned_items s w k e (planned s w e)) (nothing_in s (world_seen w) (λ u n. settled_behind k s w u n e)) (λ u n f h. planned_in_only s w (w.events + 1) k e a u n f h)

-- ---- AND NO LESS, but for what is told already

abbrev pub Out : SettledSoFar → SettledSoFar → ℕ → List ℕ → Entry → Type 0
Out before lines u n f = IsSettled before u n f ⊎ Among f (lines u n)

-- what was in a cursor is told
pub was_told : (s : Setup) (w : World) (before : SettledSoFar) (t x : ℕ) (n is : List ℕ) (f : Entry) → OnlySettled s w before → x < length s.clusters → WasThere (topic_at s w t x) n is f
    → IsSettled before t n f
was_told s w before t x n is f only small old = by (sub_named (topic_at s w t x).subs n) refl old.before
  where
    r : AmongIndexes (topic_at s w t x).entries is f
    r = old.among

    by : (o : Option Subscription) → sub_named (topic_at s w t x).subs n ≡ o → has (cursor_of o) r.index ≡ true → IsSettled before t n f
    by None found inside = absurd (false≢true inside)
    by (Some v) found inside =
        let st = find_stands (λ (u : Subscription). bytes_eq u.name n) (topic_at s w t x).subs v found in
        let o = only t x v small (st.0.place, st.0.is) r.index inside in
        let one : o.0 ≡ r.entry = same_Some _ _ (sym o.1 ∙ r.at) in
        let settled : IsSettled before t v.name o.0 = o.2 (ap (λ (z : Entry). is_data z.content) one ∙ r.message) in
        let ident : o.0.ident ≡ f.ident = ap (λ (z : Entry). z.ident) one ∙ sym (idents_are f.ident r.entry.ident r.same) in
        subst (λ (l : List ℕ). IsSettled before t l f) ((bytes_eq-Decides v.name n).0 st.1)
        (subst (λ (i : Ident). list_any (same_ident i) (before t v.name) ≡ true) ident settled)

-- so many of the writes reach each that names something
abbrev pub Enough : ℕ → List Write → Type 0
Enough k ws = (n : List ℕ) (i : ℕ) → NamedBy n i ws → 0 < k

pub named_some : (n : List ℕ) (i : ℕ) (ws : List Write) → NamedBy n i ws → 0 < length ws
named_some n i ws (NamedBy.ByAcks is rest inside) = omega arith
named_some n i ws (NamedBy.ByCreation kind replicated rest) = omega arith
named_some n i ws (NamedBy.BySeek j rest lt) = omega arith

pub named_out : (s : Setup) (w : World) (before : SettledSoFar) (m t x k : ℕ) (ws : List Write) (n is : List ℕ) (f : Entry) → OnlySettled s w before → x < length s.clusters
    → ((i : ℕ) → has is i ≡ true → NamedBy n i ws) → Enough k ws → Among f (messages_at (topic_at s w t x).entries is)
    → Out before (Lines s (record { topics = map seen w.brokers; events = m }) t x cause.Client (topic_at s w t x) (take k ws)) t n f
named_out s w before m t x zero ws n is f only small named enough among =
    let r = among_index (topic_at s w t x).entries is f among in let lt = enough n r.index (named r.index r.inside) in absurd (omega (arith, lt))
named_out s w before m t x (suc j) ws n is f only small named enough among =
    elim (names_out s (record { topics = map seen w.brokers; events = m }) t x j (topic_at s w t x) ws n is f (mirror_seen s w m t x) named among) [
      | inl old ↦ inl (was_told s w before t x n is f only small old)
      | inr now ↦ inr now
    ]

pub serve_elsewhere : (s : Setup) (w : World) (x c u : ℕ) (n : List ℕ) → ((declared_at s c).topic == u) ≡ false → settled_event s w u n (event.Serve x c) ≡ []
unfolding settled_event
serve_elsewhere s w x c u n other =
    on_false ((declared_at s c).topic == u)
    (messages_at (topic_at s w u x).entries (settled_by_packet n (topic_at s w u x) (topic_name s u) c (next_packet (link_at w.links (ToBroker c x))))) [] other

pub serve_out : (s : Setup) (w : World) (before : SettledSoFar) (m k x c : ℕ) → in_range s (event.Serve x c) ≡ true → Whole s w → OnlySettled s w before
    → Enough k (serve (site s (declared_at s c).topic x) (topic_at s w (declared_at s c).topic x) c (next_packet (link_at w.links (ToBroker c x)))).writes
    → (u : ℕ) (n : List ℕ) (f : Entry) → Among f (settled_event s w u n (event.Serve x c)) → Out before (EventLines s w m k (event.Serve x c) (planned_in s w (event.Serve x c))) u n f
serve_out s w before m k x c within a only enough u n f h = by (t == u) refl
  where
    t : ℕ
    t = (declared_at s c).topic

    O : ℕ → Type 0
    O v = Out before (EventLines s w m k (event.Serve x c) (planned_in s w (event.Serve x c))) v n f

    here : Among f (settled_event s w t n (event.Serve x c)) → O t
    here g =
        let b = topic_at s w t x in let o = next_packet (link_at w.links (ToBroker c x)) in
        named_out s w before m t x k (serve (site s t x) b c o).writes n (settled_by_packet n b (topic_name s t) c o) f only (serve_there s w x c a within).1
        (λ i inside. serve_named (site s t x) b c n i o inside) enough (subst (Among f) (serve_settles s w x c n) g)

    by : (q : Bool) → (t == u) ≡ q → O u
    by false other = absurd (false≢true (subst (Among f) (serve_elsewhere s w x c u n other) h))
    by true same =
        let one : t ≡ u = eqb-true t u same in
        subst O one (here (subst (λ (v : ℕ). Among f (settled_event s w v n (event.Serve x c))) (sym one) h))

-- what a seek's number of a subscription stands for, and its topic, are those that it settles
abbrev pub seeks_at : Setup → ℕ → ℕ → ℕ → ℕ → List ℕ → Bool
seeks_at s t x l u n = (t == u) && has_sub s u x l && bytes_eq (sub_name s u l) n

pub seek_elsewhere : (s : Setup) (w : World) (t x l : ℕ) (to : Option Position) (u : ℕ) (n : List ℕ) → seeks_at s t x l u n ≡ false → settled_event s w u n (event.Seek t x l to) ≡ []
unfolding settled_event
seek_elsewhere s w t x l to u n other =
    on_false (seeks_at s t x l u n) (messages_at (topic_at s w u x).entries (settled_by_seek (topic_at s w u x) to (sub_named (topic_at s w u x).subs n))) [] other

pub record SeeksAt (s : Setup) (t x l u : ℕ) (n : List ℕ) : Type 0 where
  topic : t ≡ u
  name : sub_name s t l ≡ n
  there : has_sub s t x l ≡ true

pub seeks_there : (s : Setup) (t x l u : ℕ) (n : List ℕ) → seeks_at s t x l u n ≡ true → SeeksAt s t x l u n
seeks_there s t x l u n is =
    let a1 = t == u in let a2 = has_sub s u x l in let a3 = bytes_eq (sub_name s u l) n in
    let two = left (a1 && a2) a3 is in
    let topic : t ≡ u = eqb-true t u (left a1 a2 two) in
    let name : sub_name s u l ≡ n = (bytes_eq-Decides (sub_name s u l) n).0 (right (a1 && a2) a3 is) in
    record {
      topic = topic;
      name = ap (λ (v : ℕ). sub_name s v l) topic ∙ name;
      there = subst (λ (v : ℕ). has_sub s v x l ≡ true) (sym topic) (right a1 a2 two);
    }

pub seek_out : (s : Setup) (w : World) (before : SettledSoFar) (m k t x l : ℕ) (to : Option Position) → in_range s (event.Seek t x l to) ≡ true → OnlySettled s w before
    → Enough k (seek (site s t x) (topic_at s w t x) (sub_name s t l) to).writes
    → (u : ℕ) (n : List ℕ) (f : Entry) → Among f (settled_event s w u n (event.Seek t x l to)) → Out before (EventLines s w m k (event.Seek t x l to) (planned_in s w (event.Seek t x l to))) u n f
seek_out s w before m k t x l to within only enough u n f h = by (seeks_at s t x l u n) refl
  where
    O : ℕ → List ℕ → Type 0
    O v p = Out before (EventLines s w m k (event.Seek t x l to) (planned_in s w (event.Seek t x l to))) v p f

    here : Among f (settled_event s w t (sub_name s t l) (event.Seek t x l to)) → O t (sub_name s t l)
    here g =
        let b = topic_at s w t x in let p = sub_name s t l in let there = topic_there s t x (of_sub s t x l within) in
        named_out s w before m t x k (seek (site s t x) b p to).writes p (settled_by_seek b to (sub_named b.subs p)) f only there.1
        (λ i inside. seek_named (site s t x) b p to i inside) enough (subst (Among f) (seek_settles s w t x l to within) g)

    by : (q : Bool) → seeks_at s t x l u n ≡ q → O u n
    by false other = absurd (false≢true (subst (Among f) (seek_elsewhere s w t x l to u n other) h))
    by true is =
        let r = seeks_there s t x l u n is in
        subst (λ (v : ℕ). O v n) r.topic (subst (O t) r.name
        (here (subst (λ (p : List ℕ). Among f (settled_event s w t p (event.Seek t x l to))) (sym r.name)
        (subst (λ (v : ℕ). Among f (settled_event s w v n (event.Seek t x l to))) (sym r.topic) h))))

-- ---- out of range nothing is settled

pub none_in : (b : Bool) → (if b then [] else []) ≡ the_none
none_in true = refl
none_in false = refl

pub serve_stray : (s : Setup) (w : World) (x c u : ℕ) (n : List ℕ) → Tables s w → in_range s (event.Serve x c) ≡ false → settled_event s w u n (event.Serve x c) ≡ []
unfolding settled_event
serve_stray s w x c u n tables out =
    ap (λ (o : Option Packet). if (declared_at s c).topic == u then messages_at (topic_at s w u x).entries (settled_by_packet n (topic_at s w u x) (topic_name s u) c o) else [])
    (nothing_sent s w x c tables out)
    ∙ none_in ((declared_at s c).topic == u)

pub seek_stray : (s : Setup) (w : World) (t x l : ℕ) (to : Option Position) (u : ℕ) (n : List ℕ) → in_range s (event.Seek t x l to) ≡ false → settled_event s w u n (event.Seek t x l to) ≡ []
seek_stray s w t x l to u n out = by (seeks_at s t x l u n) refl
  where
    by : (q : Bool) → seeks_at s t x l u n ≡ q → settled_event s w u n (event.Seek t x l to) ≡ []
    by false other = seek_elsewhere s w t x l to u n other
    by true is = absurd (false≢true (sym out ∙ (seeks_there s t x l u n is).there))
