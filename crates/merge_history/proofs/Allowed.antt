-- The events of logs are events that a script may schedule.
use Rattle.std.proofs.Common.{◌≡◌, ℕ, zero, suc, ◌+◌, ◌<◌, ◌^◌, ◌==◌, Bool, true, false, List, [], ◌∷◌, ◌++◌, length, refl, sym, ap, subst, ◌∙◌, nat_lt, if◌then◌else◌, arith}
use Rattle.std.proofs.lemmas.Bool.{eq-eqb, eqb-true, false≢true, lt-ltb, ltb-true, true≢false}
use Rattle.std.proofs.lemmas.List.{length-map}
use Rattle.std.proofs.lemmas.Option.{none-some, same_Some, slice_get_within}
use Rattle.std.proofs.lemmas.List.Elements.{All-from_recursion}
use Rattle.std.specs.Prelude.{All, Err, IfOk, Ok, Option, Result, Some, None, is_some, not, slice_get}
use Rattle.std.specs.List.{AllByRecursion}
use Rattle.geo_base.specs.declared.event.Event.{Event}
use Rattle.geo_base.specs.declared.event.Event.TheVariants as event
use Rattle.geo_base.specs.declared.event.Step.{Step}
use Rattle.geo_base.specs.declared.event.Step.TheVariants as step
use Rattle.geo_base.specs.declared.memory.Memory.{Memory}
use Rattle.geo_base.specs.declared.packet.Packet.{Packet}
use Rattle.geo_base.specs.declared.packet.Peer.{Peer}
use Rattle.geo_base.specs.declared.packet.Peer.TheVariants as peer
use Rattle.geo_base.specs.Forwarding.{is_remote, reset}
use Rattle.geo_base.specs.History.{HappensAt, RecordedEvent, Replays, is_input, state_after}
use Rattle.geo_base.specs.Merge.{Merged, all_from, comes_before, history_of, inserted, merge_of, of_history, ordered, steps_of}
use Rattle.geo_base.specs.NodeState.{BrokerState, ClientState, NodeState, acts, opening_state, takes_from}
use Rattle.geo_base.specs.Nodes.{BrokerNode, Node, is_node, is_peer, node_count, node_of}
use Rattle.geo_base.specs.Plan.{Plan, idle_plan}
use Rattle.geo_base.specs.Planned.{in_range}
use Rattle.geo_base.specs.Reading.{read}
use Rattle.geo_base.specs.Scripted.{IsScripted}
use Rattle.geo_base.specs.Setup.{Setup}
use Rattle.geo_base.specs.World.{site}
use Rattle.frame_laws.specs.Logs.{StandsAs}
use Rattle.script_text.specs.Script.{Script}
use Rattle.world_laws.proofs.Merges.MergeOrder.{Rises, rises}
use Rattle.world_laws.proofs.Walks.Walk.{left, on_if, right}
use Rattle.merge_history.specs.Logs.{AreLogs, AreKept, AreOwn, LogView, Counts}
use Rattle.merge_history.specs.Ends.{AreStood, layout_of}
use Rattle.merge_history.specs.Events.{AreMergedEvents, AreOwnEvents, allowed, histories_of, history_in, may_happen, may_schedule, MaySchedule}
use Rattle.merge_history.specs.Kept.{Kept, kept_by}
use Rattle.merge_history.specs.Peers.{LayoutView}
use Rattle.merge_history.proofs.FewNodes.{few_nodes}
use Rattle.merge_history.proofs.Rising.{alike_all, rise_is}
use Rattle.merge_history.proofs.Said.{Said, are_stood, said_of}
use Rattle.geo_base.proofs.Bools.{and_of_both}

-- ---- a subscription has a name
none_past : {X : Type 0} (xs : List X) (i : ℕ) → slice_get xs i ≡ None → i < length xs → ⊥
none_past [] i at lt = omega (arith, lt)
none_past (x ∷ xs) zero at lt = none-some x (sym at)
none_past (x ∷ xs) (suc i) at lt = none_past xs i at (omega (arith, lt))

has_name : {X : Type 0} (xs : List X) (i : ℕ) → is_some (slice_get xs i) ≡ nat_lt i (length xs)
has_name {X} xs i = by (slice_get xs i) (nat_lt i (length xs)) refl refl
  where
    by : (o : Option X) (t : Bool) → slice_get xs i ≡ o → nat_lt i (length xs) ≡ t → is_some o ≡ t
    by (Some x) true at is = refl
    by (Some x) false at is = absurd (true≢false (sym (lt-ltb i (length xs) (slice_get_within xs i x at)) ∙ is))
    by None true at is = absurd (none_past xs i at (ltb-true i (length xs) is))
    by None false at is = refl

pub has_sub_name : {X : Type 0} (xs : List X) (i : ℕ) (o : Option X) → o ≡ slice_get xs i → is_some o ≡ nat_lt i (length xs)
has_sub_name xs i o is = ap is_some is ∙ has_name xs i

-- ---- the two ends of a link are apart

-- a plan that is not idle is that of another cluster
of_remote : (b : Bool) (p q : Plan) → q.idle ≡ true → (if b then p else q).idle ≡ false → b ≡ true
of_remote true p q idle h = refl
of_remote false p q idle h = absurd (true≢false (sym idle ∙ h))

reset_apart : (s : Setup) (st : NodeState) (t x y : ℕ) (p : Option Packet) → (acts s st (event.Reset t x y) p).idle ≡ false → not (y == x) ≡ true
unfolding reset
reset_apart s (BrokerState b) t x y p h =
    right (nat_lt y (length s.clusters)) (not (y == x)) (of_remote (is_remote (site s t x) y) _ idle_plan refl h)
reset_apart s (ClientState k) t x y p h = absurd (true≢false h)

read_apart : (s : Setup) (st : NodeState) (t x y : ℕ) (p : Option Packet) → (acts s st (event.Read t x y) p).idle ≡ false → not (y == x) ≡ true
unfolding read
read_apart s (BrokerState b) t x y p h =
    right (nat_lt y (length s.clusters)) (not (y == x)) (of_remote (is_remote (site s t x) y) _ idle_plan refl h)
read_apart s (ClientState k) t x y p h = absurd (true≢false h)

-- a packet that is there is from a peer
peer_there : (s : Setup) (n : Node) (q : Peer) (p : Option Packet) → is_input s n (Some q) p ≡ true → is_peer s n q ≡ true
peer_there s n q None h = absurd (false≢true h)
peer_there s n q (Some p) h = h

turned : (x y : ℕ) → not (x == y) ≡ true → not (y == x) ≡ true
turned x y h = by (y == x) refl
  where
    by : (t : Bool) → (y == x) ≡ t → not t ≡ true
    by true e = absurd (false≢true (ap not (sym (eq-eqb x y (sym (eqb-true y x e)))) ∙ h))
    by false e = refl

-- ---- an event that happens at a node is one that a script may schedule

may : (s : Setup) (st : NodeState) (e : Event) (p : Option Packet) → in_range s e ≡ true → (acts s st e p).idle ≡ false
    → is_input s (node_of s e) (takes_from st e) p ≡ true → may_happen s e ≡ true
may s st (event.Go c) p r enabled input = and_of_both (in_range s (event.Go c)) true r refl
may s st (event.Get c) p r enabled input = and_of_both (in_range s (event.Get c)) true r refl
may s st (event.Reconnect c) p r enabled input = and_of_both (in_range s (event.Reconnect c)) true r refl
may s st (event.Serve x c) p r enabled input = and_of_both (in_range s (event.Serve x c)) true r refl
may s st (event.Drop x c) p r enabled input = and_of_both (in_range s (event.Drop x c)) true r refl
may s st (event.Reset t x y) p r enabled input = and_of_both (in_range s (event.Reset t x y)) (not (y == x)) r (reset_apart s st t x y p enabled)
may s st (event.Read t x y) p r enabled input = and_of_both (in_range s (event.Read t x y)) (not (y == x)) r (read_apart s st t x y p enabled)
may s st (event.Take t x y f) p r enabled input =
    let there = peer_there s (BrokerNode t y) (peer.Back x) p input in
    and_of_both (in_range s (event.Take t x y f)) (not (y == x)) r (turned x y (right (nat_lt x (length s.clusters)) (not (x == y)) there))
may s st (event.Receipt t x y f) p r enabled input =
    let there = peer_there s (BrokerNode t x) (peer.Forward y) p input in
    and_of_both (in_range s (event.Receipt t x y f)) (not (y == x)) r (right (nat_lt y (length s.clusters)) (not (y == x)) there)
may s st (event.Snap t x) p r enabled input = and_of_both (in_range s (event.Snap t x)) true r refl
may s st (event.Offer t x n) p r enabled input = and_of_both (in_range s (event.Offer t x n)) true r refl
may s st (event.Seek t x n to) p r enabled input = and_of_both (in_range s (event.Seek t x n to)) true r refl
may s st (event.Restart t x) p r enabled input = and_of_both (in_range s (event.Restart t x)) true r refl

-- ---- all that is recorded

abbrev IsRecorded : Setup → RecordedEvent → Type 0
IsRecorded s d = may_happen s d.event ≡ true

abbrev IsEntry : Setup → Merged → Type 0
IsEntry s m = IsRecorded s m.recorded

happened : (s : Setup) (n : ℕ) (st : NodeState) (clock : ℕ) (d : RecordedEvent) → HappensAt s n st clock d → IsRecorded s d
happened s n st clock d h =
    may s st d.event d.taken (left (in_range s d.event) (is_node s (node_of s d.event)) h.in_range) h.enabled h.input

all_happened : (s : Setup) (n : ℕ) (st : NodeState) (clock : ℕ) (ds : List RecordedEvent) → Replays s n st clock ds → AllByRecursion (IsRecorded s) ds
all_happened s n st clock [] h = tt
all_happened s n st clock (d ∷ ds) h = (happened s n st clock d h.0, all_happened s n (state_after s st d) d.stamp ds h.1)

of_one : (s : Setup) (n : ℕ) (ds : List RecordedEvent) → AllByRecursion (IsRecorded s) ds → AllByRecursion (IsEntry s) (of_history n ds)
of_one s n [] h = tt
of_one s n (d ∷ ds) h = (h.0, of_one s n ds h.1)

of_both : (s : Setup) (as' bs : List Merged) → AllByRecursion (IsEntry s) as' → AllByRecursion (IsEntry s) bs → AllByRecursion (IsEntry s) (as' ++ bs)
of_both s [] bs h k = k
of_both s (a ∷ as') bs h k = (h.0, of_both s as' bs h.1 k)

of_all : (s : Setup) (n : ℕ) (hs : List (List RecordedEvent)) → ((k : ℕ) → AllByRecursion (IsRecorded s) (history_of hs k)) → AllByRecursion (IsEntry s) (all_from n hs)
of_all s n [] each = tt
of_all s n (h ∷ hs) each = of_both s (of_history n h) (all_from (n + 1) hs) (of_one s n h (each 0)) (of_all s (n + 1) hs (λ k. each (suc k)))

with_one : (s : Setup) (a : Merged) (ms : List Merged) → IsEntry s a → AllByRecursion (IsEntry s) ms → AllByRecursion (IsEntry s) (inserted a ms)
with_one s a [] p h = (p, tt)
with_one s a (b ∷ bs) p h = on_if (AllByRecursion (IsEntry s)) (comes_before a b) (a ∷ b ∷ bs) (b ∷ inserted a bs) (p, h) (h.0, with_one s a bs p h.1)

in_order : (s : Setup) (ms : List Merged) → AllByRecursion (IsEntry s) ms → AllByRecursion (IsEntry s) (ordered ms)
in_order s [] h = tt
in_order s (m ∷ ms) h = with_one s m (ordered ms) h.0 (in_order s ms h.1)

as_steps : (s : Setup) (ms : List Merged) → AllByRecursion (IsEntry s) ms → AllByRecursion (MaySchedule s) (steps_of ms)
as_steps s [] h = tt
as_steps s (m ∷ ms) h = (h.0, as_steps s ms h.1)

none_left_out : (s : Setup) (es : List Step) → AllByRecursion (MaySchedule s) es → allowed s es ≡ es
none_left_out s [] h = refl
none_left_out s (e ∷ es) h =
    ap (λ (t : Bool). if t then e ∷ allowed s es else allowed s es) h.0 ∙ ap (λ (fs : List Step). e ∷ fs) (none_left_out s es h.1)

merged_each : (s : Setup) (l : LayoutView) (kept : List (List Kept)) (said : List (List RecordedEvent)) → AreStood s l kept said → AllByRecursion (MaySchedule s) (steps_of (merge_of said))
merged_each s l kept said stood =
    as_steps s (merge_of said) (in_order s (all_from 0 said) (of_all s 0 said (λ n. all_happened s n (opening_state s n) 0 (history_of said n) (stood.replay n))))

pub merged_may : (s : Setup) (l : LayoutView) (kept : List (List Kept)) (said : List (List RecordedEvent)) → AreStood s l kept said → All (MaySchedule s) (steps_of (merge_of said))
merged_may s l kept said stood = All-from_recursion (MaySchedule s) (steps_of (merge_of said)) (merged_each s l kept said stood)

merged_allowed : (s : Setup) (l : LayoutView) (kept : List (List Kept)) (said : List (List RecordedEvent)) → AreStood s l kept said
    → allowed s (steps_of (merge_of said)) ≡ steps_of (merge_of said)
merged_allowed s l kept said stood = none_left_out s (steps_of (merge_of said)) (merged_each s l kept said stood)

each_allowed : (s : Setup) (es : List Step) → AllByRecursion (MaySchedule s) (allowed s es)
each_allowed s [] = tt
each_allowed s (e ∷ es) = by (may_schedule s e) refl (each_allowed s es)
  where
    by : (t : Bool) → may_schedule s e ≡ t → AllByRecursion (MaySchedule s) (allowed s es) → AllByRecursion (MaySchedule s) (if t then e ∷ allowed s es else allowed s es)
    by true h rest = (h, rest)
    by false h rest = rest

pub each_is : (s : Setup) (es : List Step) (r : Result (List Step) Memory) → IfOk r (λ fs. fs ≡ allowed s es) → IfOk r (λ fs. All (MaySchedule s) fs)
each_is s es (Ok fs) is = subst (λ (gs : List Step). All (MaySchedule s) gs) (sym is) (All-from_recursion (MaySchedule s) (allowed s es) (each_allowed s es))
each_is s es (Err m) is = tt

pub histories_few : (bs : List LogView) (hs : List (List Kept)) (m : ℕ) → hs ≡ histories_of bs → length bs < m → length hs < m
histories_few bs hs m is lt = subst (λ (k : ℕ). k < m) (sym (ap (λ (ks : List (List Kept)). length ks) is ∙ length-map bs history_in)) lt

-- ---- of logs none of which is strange all events are there
history_at : (bs : List LogView) (n : ℕ) (b : LogView) → slice_get bs n ≡ Some b → kept_by (histories_of bs) n ≡ b.history
history_at [] n b at = absurd (none-some b at)
history_at (c ∷ bs) zero b at = ap history_in (same_Some c b at)
history_at (c ∷ bs) (suc n) b at = history_at bs n b at

all_count : (c : Script) (bs : List LogView) → AreOwn c bs → AreKept c bs (histories_of bs)
all_count c bs own = record {
  size = length-map bs history_in;
  each = λ n b at. Counts.All (own n b at) (history_at bs n b at);
}

own_events : (c : Script) (bs : List LogView) (st : ℕ → NodeState) (clock : ℕ → ℕ) (es : List Step) → IsScripted c.setup → length bs ≡ node_count c.setup
    → AreMergedEvents c.setup bs es → AreLogs bs st clock → AreOwn c bs → AreOwnEvents c bs es
own_events c bs st clock es scripted count merged logs own = record {
  kept = kept;
  counts = counts;
  said = said.list;
  stands = stood;
  steps = merged said.list (alike_all (StandsAs s.clusters) kept said.list (counts.size ∙ sym said.many) stood.stands) (λ n. rise_is (history_of said.list n) (rises_all n))
      ∙ merged_allowed s (layout_of s) kept said.list stood;
}
  where
    s : Setup
    s = c.setup

    kept : List (List Kept)
    kept = histories_of bs

    counts : AreKept c bs kept
    counts = all_count c bs own

    said : Said c bs kept st
    said = said_of c bs kept st clock counts logs

    stood : AreStood s (layout_of s) kept said.list
    stood = are_stood c bs kept st scripted count counts said

    rises_all : (n : ℕ) → Rises (history_of said.list n)
    rises_all n = rises s n (opening_state s n) 0 (history_of said.list n) (stood.replay n)

pub own_if : (c : Script) (bs : List LogView) (st : ℕ → NodeState) (clock : ℕ → ℕ) (r : Result (List Step) Memory) → IsScripted c.setup → length bs ≡ node_count c.setup
    → IfOk r (AreMergedEvents c.setup bs) → AreLogs bs st clock → AreOwn c bs → IfOk r (AreOwnEvents c bs)
own_if c bs st clock (Ok es) scripted count merged logs own = own_events c bs st clock es scripted count merged logs own
own_if c bs st clock (Err m) scripted count merged logs own = tt

pub few_books : (s : Setup) (bs : List LogView) → IsScripted s → length bs ≡ node_count s → length bs < 2 ^ 32
few_books s bs scripted count = subst (λ (k : ℕ). k < 2 ^ 32) (sym count) (few_nodes s scripted)
