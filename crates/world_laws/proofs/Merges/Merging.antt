-- The world that does the events of a merged list: at every point of it each node still has to do what the rest of its
-- history says, from the state and the clock that the world gives it, and what is still to be taken from a link is a
-- beginning of what waits on it and of what is still to be sent.
use Rattle.std.proofs.Common.{◌≡◌, ℕ, ◌+◌, ◌<◌, ◌≤◌, Bool, true, false, List, [], ◌∷◌, ◌++◌, length, refl, sym, ap, subst, ◌∙◌, ◌==◌, arith, nat_lt}
use Rattle.std.specs.Prelude.{Option, Some, None, if◌then◌else◌, ◌&&◌, ◌||◌}
use Rattle.std.proofs.lemmas.Bool.{eqb-true, eq-eqb, false≢true, ltb-true}
use Rattle.std.proofs.lemmas.List.{append_assoc, length-append}
use Rattle.world_laws.proofs.Types.{Packet, Peer}
use Rattle.geo_base.specs.Agreement.{AreAlike}
use Rattle.geo_base.specs.Happening.{happens}
use Rattle.geo_base.specs.History.{HappensAt, RecordedEvent, Replays, is_input, last_stamp, replayed, sent_in, sent_over, state_after, taken_in, taken_over}
use Rattle.geo_base.specs.Link.{Link, next_packet}
use Rattle.geo_base.specs.Merge.{BeforeAll, IsOrdered, Merged, comes_before, of_node}
use Rattle.geo_base.specs.NodeState.{NodeState, clock_at, state_at, takes_from}
use Rattle.geo_base.specs.Nodes.{Node, has_link, is_node, link_from, node_count, node_number, node_of, sender_of, taker_of}
use Rattle.geo_base.specs.Planned.{in_range}
use Rattle.geo_base.specs.Setup.{Setup}
use Rattle.geo_base.specs.World.{LinkName, World, link_at, packet_at}
use Rattle.world_laws.proofs.Merges.Alike.{LikeInput, alike_length, alike_older, entry_alike, halves}
use Rattle.world_laws.proofs.Merges.Crossings.{Crossing, IsOlder, crosses, crosses_next, history_stamps, sends_nothing, taken_stamp, takes_nothing, takes_there}
use Rattle.world_laws.proofs.Replicating.Effects.{Each}
use Rattle.world_laws.proofs.Merges.LinkTables.{input_link, moved, moved_none, same_link_self}
use Rattle.world_laws.proofs.Merges.NodeEvents.{Does, Fits}
use Rattle.world_laws.proofs.Merges.Roles.{Doing, Role, number_lt, role_next}
use Rattle.world_laws.proofs.Walks.Walk.{left, on_true, right}

-- what is still to be taken from a link, and what is still to be sent on it
abbrev pub still_taken : Setup → World → List Merged → LinkName → List Packet
still_taken s w ms k = taken_in s k (state_at s w (taker_of s k)) (of_node (taker_of s k) ms)

abbrev pub still_sent : Setup → List Merged → LinkName → List Packet
still_sent s ms k = sent_in s k (of_node (sender_of s k) ms)

-- the packets that come over a link are like those that are still to be taken
pub record Comes (s : Setup) (l : Link) (takes sends : List Packet) : Type 0 where
  pub packets : List Packet
  pub alike : AreAlike s takes packets
  pub crossing : Crossing l packets sends

pub record Stands (s : Setup) (w : World) (ms : List Merged) : Type 0 where
  pub fits : Fits s w
  pub replay : (n : ℕ) → Replays s n (state_at s w n) (clock_at s w n) (of_node n ms)
  pub agree : (k : LinkName) → has_link s k ≡ true → Comes s (link_at w.links k) (still_taken s w ms k) (still_sent s ms k)
  pub roles : (n : ℕ) → n < node_count s → Role s n (state_at s w n)

-- the first entry is done at its node
pub first_done : (s : Setup) (w : World) (m : Merged) (ms : List Merged) → Stands s w (m ∷ ms)
    → HappensAt s m.node (state_at s w m.node) (clock_at s w m.node) m.recorded × Replays s m.node (state_after s (state_at s w m.node) m.recorded) m.recorded.stamp (of_node m.node ms)
first_done s w m ms h =
    subst (Replays s m.node (state_at s w m.node) (clock_at s w m.node)) (on_true (m.node == m.node) _ _ (eq-eqb m.node m.node refl)) (h.replay m.node)

-- what it takes and sends comes before what its node's later entries take and send
taken_first : (s : Setup) (w : World) (m : Merged) (ms : List Merged) (k : LinkName) (z : ℕ)
    → ((m.node ≡ z → ⊥) → taken_over s k (node_of s m.recorded.event) (takes_from (state_at s w m.node) m.recorded.event) m.recorded.taken ≡ [])
    → taken_in s k (state_at s w z) (of_node z (m ∷ ms))
    ≡ taken_over s k (node_of s m.recorded.event) (takes_from (state_at s w m.node) m.recorded.event) m.recorded.taken
    ++ taken_in s k (if m.node == z then state_after s (state_at s w m.node) m.recorded else state_at s w z) (of_node z ms)
taken_first s w m ms k z none = by (m.node == z) refl
  where
    d : RecordedEvent
    d = m.recorded

    here : List Packet
    here = taken_over s k (node_of s d.event) (takes_from (state_at s w m.node) d.event) d.taken

    by : (b : Bool) → (m.node == z) ≡ b → taken_in s k (state_at s w z) (if b then d ∷ of_node z ms else of_node z ms)
        ≡ here ++ taken_in s k (if b then state_after s (state_at s w m.node) d else state_at s w z) (of_node z ms)
    by true e =
        let P : ℕ → Type 0 = λ i. taken_in s k (state_at s w i) (d ∷ of_node i ms) ≡ here ++ taken_in s k (state_after s (state_at s w m.node) d) (of_node i ms) in
        subst P (eqb-true m.node z e) refl
    by false e =
        ap (λ (ps : List Packet). ps ++ taken_in s k (state_at s w z) (of_node z ms)) (sym (none (λ is. false≢true (sym e ∙ eq-eqb m.node z is))))

sent_first : (s : Setup) (m : Merged) (ms : List Merged) (k : LinkName) (z : ℕ)
    → ((m.node ≡ z → ⊥) → sent_over s k (node_of s m.recorded.event) m.recorded.sent ≡ [])
    → sent_in s k (of_node z (m ∷ ms)) ≡ sent_over s k (node_of s m.recorded.event) m.recorded.sent ++ sent_in s k (of_node z ms)
sent_first s m ms k z none = by (m.node == z) refl
  where
    d : RecordedEvent
    d = m.recorded

    by : (b : Bool) → (m.node == z) ≡ b → sent_in s k (if b then d ∷ of_node z ms else of_node z ms) ≡ sent_over s k (node_of s d.event) d.sent ++ sent_in s k (of_node z ms)
    by true e = refl
    by false e = ap (λ (ps : List Packet). ps ++ sent_in s k (of_node z ms)) (sym (none (λ is. false≢true (sym e ∙ eq-eqb m.node z is))))

-- no later entry has a smaller stamp
before_stamp : (a b : Merged) → comes_before a b ≡ true → a.recorded.stamp ≤ b.recorded.stamp
before_stamp a b h = by (nat_lt a.recorded.stamp b.recorded.stamp) refl h
  where
    by : (t : Bool) → nat_lt a.recorded.stamp b.recorded.stamp ≡ t → (t || ((a.recorded.stamp == b.recorded.stamp) && nat_lt a.node b.node)) ≡ true → a.recorded.stamp ≤ b.recorded.stamp
    by true e h = let lt = ltb-true a.recorded.stamp b.recorded.stamp e in omega (arith, lt)
    by false e h = let same = eqb-true a.recorded.stamp b.recorded.stamp (left (a.recorded.stamp == b.recorded.stamp) (nat_lt a.node b.node) h) in omega (arith, same)

abbrev FromStamp : ℕ → RecordedEvent → Type 0
FromStamp low d = low ≤ d.stamp

later_stamps : (m : Merged) (ms : List Merged) (z : ℕ) → BeforeAll m ms → Each (FromStamp m.recorded.stamp) (of_node z ms)
later_stamps m [] z h = tt
later_stamps m (a ∷ as') z h = by (a.node == z) (before_stamp m a h.0) (later_stamps m as' z h.1)
  where
    by : (b : Bool) → m.recorded.stamp ≤ a.recorded.stamp → Each (FromStamp m.recorded.stamp) (of_node z as')
        → Each (FromStamp m.recorded.stamp) (if b then a.recorded ∷ of_node z as' else of_node z as')
    by true le rest = (le, rest)
    by false le rest = rest

all_stamps : (m : Merged) (ms : List Merged) (z : ℕ) → BeforeAll m ms → Each (FromStamp m.recorded.stamp) (of_node z (m ∷ ms))
all_stamps m ms z h = by (m.node == z) (later_stamps m ms z h)
  where
    by : (b : Bool) → Each (FromStamp m.recorded.stamp) (of_node z ms) → Each (FromStamp m.recorded.stamp) (if b then m.recorded ∷ of_node z ms else of_node z ms)
    by true rest = (omega arith, rest)
    by false rest = rest

-- where an entry takes a packet, the next on its link is like that packet
input_is : (s : Setup) (w : World) (n : Node) (q : Option Peer) (p : Option Packet) (stamp : ℕ) → is_node s n ≡ true → is_input s n q p ≡ true
    → ((k : LinkName) → IsOlder stamp (taken_over s k n q p))
    → ((k : LinkName) → has_link s k ≡ true
    → (takes : List Packet) × (sends : List Packet) × Comes s (link_at w.links k) (taken_over s k n q p ++ takes) sends × Each (λ (u : Packet). stamp ≤ u.stamp) sends)
    → LikeInput s p (packet_at w.links (input_link s n q))
input_is s w n None None stamp there fits older comes = tt
input_is s w n None (Some p) stamp there fits older comes = absurd (false≢true fits)
input_is s w n (Some q) None stamp there fits older comes = absurd (false≢true fits)
input_is s w n (Some q) (Some p) stamp there fits older comes =
    let k = link_from s n q in
    let one : taken_over s k n (Some q) (Some p) ≡ p ∷ [] = on_true _ (p ∷ []) [] (same_link_self k) in
    let c = comes k (takes_there s n q there fits).has in
    let old : p.stamp < stamp = (subst (Each (λ (u : Packet). u.stamp < stamp)) one (older k).older).0 in
    let x = c.2 in
    by k c.0 c.1 x.packets (subst (λ (ps : List Packet). AreAlike s (ps ++ c.0) x.packets) one x.alike) x.crossing old c.3
  where
    by : (k : LinkName) (takes sends us : List Packet) → AreAlike s (p ∷ takes) us → Crossing (link_at w.links k) us sends → p.stamp < stamp
        → Each (λ (u : Packet). stamp ≤ u.stamp) sends → LikeInput s (Some p) (next_packet (link_at w.links k))
    by k takes sends [] h c old later = absurd h
    by k takes sends (u ∷ us) h c old later =
        let same = h.0.stamp in
        subst (LikeInput s (Some p)) (sym (crosses_next (link_at w.links k) u us sends stamp c (omega (arith, old, same)) later)) h.0

-- what the first entry takes and sends, before any later ones
pub record Next (s : Setup) (w : World) (m : Merged) (ms : List Merged) : Type 0 where
  pub does : Does s w m.node m.recorded
  pub taken : (ls : List Merged) (k : LinkName) → still_taken s w (m ∷ ls) k
      ≡ taken_over s k (node_of s m.recorded.event) (takes_from (state_at s w m.node) m.recorded.event) m.recorded.taken ++ still_taken s (happens s w m.recorded.event) ls k
  pub sent : (ls : List Merged) (k : LinkName) → still_sent s (m ∷ ls) k ≡ sent_over s k (node_of s m.recorded.event) m.recorded.sent ++ still_sent s ls k
  pub stands : Stands s (happens s w m.recorded.event) ms

pub next_of : (s : Setup) (w : World) (m : Merged) (ms : List Merged) → Stands s w (m ∷ ms) → BeforeAll m ms → Next s w m ms
next_of s w m ms h before = record { does = x; taken = taken_now; sent = sent_now; stands = record { fits = x.fits; replay = replay; agree = agree; roles = roles } }
  where
    n : ℕ
    n = m.node

    d : RecordedEvent
    d = m.recorded

    at : Node
    at = node_of s d.event

    from : Option Peer
    from = takes_from (state_at s w n) d.event

    first : HappensAt s n (state_at s w n) (clock_at s w n) d × Replays s n (state_after s (state_at s w n) d) d.stamp (of_node n ms)
    first = first_done s w m ms h

    there : is_node s at ≡ true
    there = right (in_range s d.event) _ first.0.in_range

    within : n < node_count s
    within = subst (λ (i : ℕ). i < node_count s) first.0.here (number_lt s d.event first.0.in_range)

    doing : Doing s n (state_at s w n) d
    doing = role_next s n (state_at s w n) (clock_at s w n) d (h.roles n within) first.0

    here : (z : ℕ) → (n ≡ z → ⊥) → node_number s at ≡ z → ⊥
    here z other is = other (sym first.0.here ∙ is)

    taken_is : (ls : List Merged) (k : LinkName) → still_taken s w (m ∷ ls) k
        ≡ taken_over s k at from d.taken ++ taken_in s k (if n == taker_of s k then state_after s (state_at s w n) d else state_at s w (taker_of s k)) (of_node (taker_of s k) ls)
    taken_is ls k = taken_first s w m ls k (taker_of s k) (λ other. takes_nothing s k at from d.taken there first.0.input (here (taker_of s k) other))

    sent_now : (ls : List Merged) (k : LinkName) → still_sent s (m ∷ ls) k ≡ sent_over s k at d.sent ++ still_sent s ls k
    sent_now ls k = sent_first s m ls k (sender_of s k) (λ other. sends_nothing s k at d.sent there doing.peers (here (sender_of s k) other))

    stamps : (k : LinkName) → Each (λ (u : Packet). d.stamp ≤ u.stamp) (still_sent s (m ∷ ms) k)
    stamps k = history_stamps s k (sender_of s k) _ _ d.stamp (of_node (sender_of s k) (m ∷ ms)) (h.replay (sender_of s k)) (all_stamps m ms (sender_of s k) before)

    older : (k : LinkName) → IsOlder d.stamp (taken_over s k at from d.taken)
    older k = taken_stamp s k at from d.taken (clock_at s w n) d.stamp first.0.stamp

    packet : LikeInput s d.taken (packet_at w.links (input_link s at from))
    packet = input_is s w at from d.taken d.stamp there first.0.input older
        (λ k has. (_, _, subst (λ (ps : List Packet). Comes s (link_at w.links k) ps (still_sent s (m ∷ ms) k)) (taken_is ms k) (h.agree k has), stamps k))

    x : Does s w n d
    x = entry_alike s w n d h.fits first.0 packet

    taken_now : (ls : List Merged) (k : LinkName) → still_taken s w (m ∷ ls) k ≡ taken_over s k at from d.taken ++ still_taken s (happens s w d.event) ls k
    taken_now ls k = taken_is ls k ∙ ap (λ (st : NodeState). taken_over s k at from d.taken ++ taken_in s k st (of_node (taker_of s k) ls)) (sym (x.states (taker_of s k)))

    replay_now : (z : ℕ) (b : Bool) → (n == z) ≡ b
        → Replays s z (if b then state_after s (state_at s w n) d else state_at s w z) (if b then d.stamp else clock_at s w z) (of_node z ms)
    replay_now z true e =
        let P : ℕ → Type 0 = λ i. Replays s i (state_after s (state_at s w n) d) d.stamp (of_node i ms) in
        subst P (eqb-true n z e) first.1
    replay_now z false e =
        let P : Bool → Type 0 = λ b. Replays s z (state_at s w z) (clock_at s w z) (if b then d ∷ of_node z ms else of_node z ms) in
        subst P e (h.replay z)

    replay : (z : ℕ) → Replays s z (state_at s (happens s w d.event) z) (clock_at s (happens s w d.event) z) (of_node z ms)
    replay z =
        let P : NodeState → ℕ → Type 0 = λ st c. Replays s z st c (of_node z ms) in
        subst (λ (st : NodeState). P st (clock_at s (happens s w d.event) z)) (sym (x.states z))
        (subst (P (if n == z then state_after s (state_at s w n) d else state_at s w z)) (sym (x.clocks z)) (replay_now z (n == z) refl))

    roles : (z : ℕ) → z < node_count s → Role s z (state_at s (happens s w d.event) z)
    roles z lt = subst (Role s z) (sym (x.states z)) (role_now (n == z) refl)
      where
        role_now : (b : Bool) → (n == z) ≡ b → Role s z (if b then state_after s (state_at s w n) d else state_at s w z)
        role_now true e = subst (λ (i : ℕ). Role s i (state_after s (state_at s w n) d)) (eqb-true n z e) doing.role
        role_now false e = h.roles z lt

    agree : (k : LinkName) → has_link s k ≡ true → Comes s (link_at (happens s w d.event).links k) (still_taken s (happens s w d.event) ms k) (still_sent s ms k)
    agree k has =
        let to = still_taken s (happens s w d.event) ms k in
        let se = still_sent s ms k in
        let so = sent_over s k at d.sent in
        let ta = taken_over s k at from d.taken in
        let l = link_at w.links k in
        let c0 = h.agree k has in
        let both : AreAlike s (ta ++ to) c0.packets = subst (λ (ps : List Packet). AreAlike s ps c0.packets) (taken_now ms k) c0.alike in
        let r = halves s ta to c0.packets both in
        let c1 : Crossing l (r.first ++ r.second) (still_sent s (m ∷ ms) k) = subst (λ (ps : List Packet). Crossing l ps (still_sent s (m ∷ ms) k)) r.whole c0.crossing in
        let c2 : Crossing l (r.first ++ r.second) (so ++ se) = subst (Crossing l (r.first ++ r.second)) (sent_now ms k) c1 in
        let c3 : Crossing (moved l so (length r.first)) r.second se =
        crosses l r.first r.second so se d.stamp c2 (alike_older s d.stamp ta r.first r.like_first (older k)) (subst (Each (λ (u : Packet). d.stamp ≤ u.stamp)) (sent_now ms k) (stamps k)) in
        let c4 : Crossing (moved l so (length ta)) r.second se =
        subst (λ (i : ℕ). Crossing (moved l so i) r.second se) (sym (alike_length s ta r.first r.like_first)) c3 in
        record {
          packets = r.second;
          alike = r.like_second;
          crossing = subst (λ (u : Link). Crossing u r.second se) (sym (x.links k has)) c4;
        }

-- the world after all of them
abbrev pub after_all : Setup → World → List Merged → World
after_all s w [] = w
after_all s w (m ∷ ms) = after_all s (happens s w m.recorded.event) ms

pub record Merges (s : Setup) (w : World) (ms : List Merged) (w' : World) : Type 0 where
  pub states : (z : ℕ) → state_at s w' z ≡ replayed s (state_at s w z) (of_node z ms)
  pub clocks : (z : ℕ) → clock_at s w' z ≡ last_stamp (clock_at s w z) (of_node z ms)
  pub links : (k : LinkName) → has_link s k ≡ true → link_at w'.links k ≡ moved (link_at w.links k) (still_sent s ms k) (length (still_taken s w ms k))
  pub idle : w'.idle ≡ w.idle
  pub events : w'.events ≡ w.events + length ms

moved_twice : (l : Link) (ps qs ts us : List Packet) → moved (moved l ps (length ts)) qs (length us) ≡ moved l (ps ++ qs) (length (ts ++ us))
moved_twice l ps qs ts us =
    let e = length-append ts us in
    let same : l.taken + length ts + length us ≡ l.taken + length (ts ++ us) = omega (arith, e) in
    ap (λ (rs : List Packet). record { sent = rs; taken = l.taken + length ts + length us }) (append_assoc l.sent ps qs)
    ∙ ap (λ (i : ℕ). record { sent = l.sent ++ (ps ++ qs); taken = i }) same

merges_more : (s : Setup) (w : World) (m : Merged) (ms ys : List Merged) → Next s w m (ms ++ ys)
    → Merges s (happens s w m.recorded.event) ms (after_all s (happens s w m.recorded.event) ms) → Merges s w (m ∷ ms) (after_all s (happens s w m.recorded.event) ms)
merges_more s w m ms ys next rest = record {
  states = λ z. rest.states z ∙ (ap (λ (st : NodeState). replayed s st (of_node z ms)) (next.does.states z) ∙ state_by z (m.node == z) refl);
  clocks = λ z. rest.clocks z ∙ (ap (λ (c : ℕ). last_stamp c (of_node z ms)) (next.does.clocks z) ∙ clock_by z (m.node == z));
  links = λ k has.
      let to = still_taken s (happens s w m.recorded.event) ms k in
      let se = still_sent s ms k in
      let so = sent_over s k (node_of s m.recorded.event) m.recorded.sent in
      let ta = taken_over s k (node_of s m.recorded.event) (takes_from (state_at s w m.node) m.recorded.event) m.recorded.taken in
      rest.links k has
      ∙ (ap (λ (l : Link). moved l se (length to)) (next.does.links k has)
      ∙ (moved_twice (link_at w.links k) so se ta to
      ∙ (ap (λ (ps : List Packet). moved (link_at w.links k) ps (length (ta ++ to))) (sym (next.sent ms k))
      ∙ ap (λ (ps : List Packet). moved (link_at w.links k) (still_sent s (m ∷ ms) k) (length ps)) (sym (next.taken ms k)))));
  idle = rest.idle ∙ next.does.idle;
  events = let a = rest.events in let b = next.does.events in omega (arith, a, b);
}
  where
    state_by : (z : ℕ) (b : Bool) → (m.node == z) ≡ b
        → replayed s (if b then state_after s (state_at s w m.node) m.recorded else state_at s w z) (of_node z ms)
        ≡ replayed s (state_at s w z) (if b then m.recorded ∷ of_node z ms else of_node z ms)
    state_by z true e =
        let P : ℕ → Type 0 = λ i. replayed s (state_after s (state_at s w m.node) m.recorded) (of_node z ms) ≡ replayed s (state_after s (state_at s w i) m.recorded) (of_node z ms) in
        subst P (eqb-true m.node z e) refl
    state_by z false e = refl

    clock_by : (z : ℕ) (b : Bool)
        → last_stamp (if b then m.recorded.stamp else clock_at s w z) (of_node z ms) ≡ last_stamp (clock_at s w z) (if b then m.recorded ∷ of_node z ms else of_node z ms)
    clock_by z true = refl
    clock_by z false = refl

-- the first of them, with others after them
pub merges : (s : Setup) (w : World) (ms ys : List Merged) → Stands s w (ms ++ ys) → IsOrdered (ms ++ ys) → Merges s w ms (after_all s w ms)
merges s w [] ys h ordered = record {
  states = λ z. refl;
  clocks = λ z. refl;
  links = λ k has. sym (moved_none (link_at w.links k));
  idle = refl;
  events = omega arith;
}
merges s w (m ∷ ms) ys h ordered =
    let next = next_of s w m (ms ++ ys) h ordered.0 in
    merges_more s w m ms ys next (merges s (happens s w m.recorded.event) ms ys next.stands ordered.1)
