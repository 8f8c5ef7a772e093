-- A node's history, read event by event.
use Rattle.std.proofs.Common.{◌≡◌, ℕ, zero, suc, ◌+◌, ◌<◌, ◌≤◌, Bool, true, false, List, [], ◌∷◌, ◌++◌, length, refl, sym, ap, subst, ◌∙◌, ◌==◌, arith, inl, inr}
use Rattle.std.specs.Prelude.{Option, Some, None, if◌then◌else◌, slice_get, slice_index_or, take}
use Rattle.std.proofs.lemmas.List.{append-nil, append_assoc}
use Rattle.std.proofs.lemmas.Option.{same_Some}
use Rattle.geo_base.specs.declared.packet.Peer.{Peer}
use Rattle.world_laws.specs.ByteHistories.{ByteSent}
use Rattle.world_laws.proofs.OnceInOrder.Members.{below_or}
use Rattle.wire_ends.specs.declared.packet.WirePacket.{WirePacket}
use Rattle.merge_history.specs.Kept.{Kept, kept_by}
use Rattle.merge_history.specs.Differences.{AllSent, IsSentAt, earlier, index_taken}
use Rattle.merge_history.specs.Peers.{LayoutView, asked, cluster_along, cluster_then, end_of, home_of, if_taken, peer_taken, same_peer, sent_once, sent_to, taken_from, taken_once}
use Rattle.merge_history.specs.Slots.{IsRaised, count_in, sends_in, slot}
use Rattle.merge_history.specs.Walks.{DiffersHere, IsFoundAt, IsSentHere, IsWalked, WalkView}
use Rattle.merge_history.proofs.Tables.{slot_same}
pub use Rattle.geo_base.proofs.Lists.{get_below as got_within}

-- ---- one event more
pub taken_push : (q : Peer) (x : ℕ) (ds : List Kept) (d : Kept) → taken_from q x (ds ++ d ∷ []) ≡ taken_from q x ds ++ taken_once q (peer_taken (cluster_along x ds) d.event) d.taken
taken_push q x [] d = append-nil (taken_once q (peer_taken x d.event) d.taken)
taken_push q x (e ∷ ds) d =
    let here = taken_once q (peer_taken x e.event) e.taken in let y = cluster_then x e.sent in
    ap (λ (bs : List WirePacket). here ++ bs) (taken_push q y ds d)
    ∙ sym (append_assoc here (taken_from q y ds) (taken_once q (peer_taken (cluster_along y ds) d.event) d.taken))

cluster_push : (x : ℕ) (ds : List Kept) (d : Kept) → cluster_along x (ds ++ d ∷ []) ≡ cluster_then (cluster_along x ds) d.sent
cluster_push x [] d = refl
cluster_push x (e ∷ ds) d = cluster_push (cluster_then x e.sent) ds d

length_both : {X : Type 0} (xs ys : List X) → length (xs ++ ys) ≡ length xs + length ys
length_both [] ys = omega arith
length_both (x ∷ xs) ys = let e = length_both xs ys in omega (arith, e)

once_counts : (q : Peer) (o : Option Peer) (b : Option WirePacket) (ns ns' : List ℕ) → IsRaised (if_taken o b) ns ns'
    → count_in ns' (slot q) ≡ count_in ns (slot q) + length (taken_once q o b)
once_counts q None None ns ns' r = let e = ap (λ (ms : List ℕ). count_in ms (slot q)) r in omega (arith, e)
once_counts q None (Some b) ns ns' r = let e = ap (λ (ms : List ℕ). count_in ms (slot q)) r in omega (arith, e)
once_counts q (Some p) None ns ns' r = let e = ap (λ (ms : List ℕ). count_in ms (slot q)) r in omega (arith, e)
once_counts q (Some p) (Some b) ns ns' r = by (same_peer p q) (slot p == slot q) (slot_same p q) (r (slot q))
  where
    by : (t u : Bool) → u ≡ t → count_in ns' (slot q) ≡ (if u then count_in ns (slot q) + 1 else count_in ns (slot q))
        → count_in ns' (slot q) ≡ count_in ns (slot q) + length (if t then b ∷ [] else [])
    by true true e h = h
    by true false e h = absurd (cc e)
    by false true e h = absurd (cc e)
    by false false e h = omega (arith, h)

pub walked_on : (l : LayoutView) (n : ℕ) (ds : List Kept) (w w' : WalkView) (d : Kept) → IsRaised (asked w.cluster d) w.counts w'.counts
    → w'.cluster ≡ cluster_then w.cluster d.sent → IsWalked l n ds w → IsWalked l n (ds ++ d ∷ []) w'
walked_on l n ds w w' d raised at h =
    let x = (home_of l n).cluster in record {
      counts = λ q.
          let more = once_counts q (peer_taken w.cluster d.event) d.taken w.counts w'.counts raised in
          let here : length (taken_once q (peer_taken w.cluster d.event) d.taken) ≡ length (taken_once q (peer_taken (cluster_along x ds) d.event) d.taken) =
          ap (λ (y : ℕ). length (taken_once q (peer_taken y d.event) d.taken)) h.cluster in
          let before = h.counts q in
          let whole : length (taken_from q x (ds ++ d ∷ [])) ≡ length (taken_from q x ds) + length (taken_once q (peer_taken (cluster_along x ds) d.event) d.taken) =
          ap (λ (bs : List WirePacket). length bs) (taken_push q x ds d) ∙ length_both (taken_from q x ds) (taken_once q (peer_taken (cluster_along x ds) d.event) d.taken) in
          omega (arith, more, here, before, whole);
      cluster = at ∙ (ap (λ (y : ℕ). cluster_then y d.sent) h.cluster ∙ sym (cluster_push x ds d));
    }

-- ---- what is kept of a node
pub kept_there : (kept : List (List Kept)) (n : ℕ) (h : List Kept) → n < length kept → slice_index_or kept n h ≡ h → kept_by kept n ≡ h
kept_there [] n h lt is = absurd (omega (arith, lt))
kept_there (g ∷ kept) zero h lt is = is
kept_there (g ∷ kept) (suc n) h lt is = kept_there kept n h (omega (arith, lt)) is

pub got_at : {X : Type 0} (xs : List X) (i : ℕ) (x : X) → i < length xs → slice_index_or xs i x ≡ x → slice_get xs i ≡ Some x
got_at [] i x lt is = absurd (omega (arith, lt))
got_at (y ∷ xs) zero x lt is = ap (λ z. Some z) is
got_at (y ∷ xs) (suc i) x lt is = got_at xs i x (omega (arith, lt)) is

-- ---- the next event
-- a packet that is not the one that was sent is the first, where each before it is
pub found_here : (l : LayoutView) (kept : List (List Kept)) (n i : ℕ) (h : List Kept) (w : WalkView) (d : Kept) (q : Peer) (k : ℕ) → kept_by kept n ≡ h
    → i < length h → slice_index_or h i d ≡ d → IsWalked l n (take i h) w → ((j : ℕ) → j < i → IsSentAt l kept n j) → DiffersHere l kept n w d q k
    → IsFoundAt l kept n (record { place = i; peer = q; index = k })
found_here l kept n i h w d q k is lt at walked before differs =
    let x = (home_of l n).cluster in
    let own : take i h ≡ earlier kept n i = ap (take i) (sym is) in
    let same : k ≡ index_taken l kept n i q =
    differs.index ∙ (walked.counts q ∙ ap (λ (ds : List Kept). length (taken_from q x ds)) own) in
    record {
      packet = differs.packet;
      first = record {
        takes = record {
          event = d;
          there = ap (λ (ds : List Kept). slice_get ds i) is ∙ got_at h i d lt at;
          comes = ap (λ (ds : List Kept). peer_taken (cluster_along x ds) d.event) (sym own) ∙ (ap (λ (y : ℕ). peer_taken y d.event) (sym walked.cluster) ∙ differs.comes);
          taken = differs.taken;
        };
        differs = λ sent. differs.differs (ap (slice_get (sent_to (end_of l n q).peer (kept_by kept (end_of l n q).node))) same ∙ sent);
        first = before;
      };
      index = same;
    }

sent_here : (l : LayoutView) (kept : List (List Kept)) (n i : ℕ) (h : List Kept) (w : WalkView) (d : Kept) → kept_by kept n ≡ h → i < length h
    → slice_index_or h i d ≡ d → IsWalked l n (take i h) w → IsSentHere l kept n w d → IsSentAt l kept n i
sent_here l kept n i h w d is lt at walked sent q b takes =
    let x = (home_of l n).cluster in
    let own : take i h ≡ earlier kept n i = ap (take i) (sym is) in
    let one : takes.event ≡ d = same_Some takes.event d (sym takes.there ∙ (ap (λ (ds : List Kept). slice_get ds i) is ∙ got_at h i d lt at)) in
    let comes : peer_taken w.cluster d.event ≡ Some q =
    ap (λ (y : ℕ). peer_taken y d.event) walked.cluster
    ∙ (ap (λ (ds : List Kept). peer_taken (cluster_along x ds) d.event) own
    ∙ (ap (λ (e : Kept). peer_taken (cluster_along x (earlier kept n i)) e.event) (sym one) ∙ takes.comes)) in
    let taken : d.taken ≡ Some b = ap (λ (e : Kept). e.taken) (sym one) ∙ takes.taken in
    let same : index_taken l kept n i q ≡ count_in w.counts (slot q) =
    sym (walked.counts q ∙ ap (λ (ds : List Kept). length (taken_from q x ds)) own) in
    ap (slice_get (sent_to (end_of l n q).peer (kept_by kept (end_of l n q).node))) same ∙ sent q b taken comes

pub sent_up_to : (l : LayoutView) (kept : List (List Kept)) (n i : ℕ) (h : List Kept) (w : WalkView) (d : Kept) → kept_by kept n ≡ h → i < length h
    → slice_index_or h i d ≡ d → IsWalked l n (take i h) w → ((j : ℕ) → j < i → IsSentAt l kept n j) → IsSentHere l kept n w d
    → (j : ℕ) → j < i + 1 → IsSentAt l kept n j
sent_up_to l kept n i h w d is lt at walked before here j le =
    elim (below_or j i) [
      | inl lt' ↦ before j lt'
      | inr ge ↦ let e : i ≡ j = omega (arith, le, ge) in subst (IsSentAt l kept n) e (sent_here l kept n i h w d is lt at walked here)
    ]

-- each of the node is, where each of its history is
pub all_sent : (l : LayoutView) (kept : List (List Kept)) (n i : ℕ) (h : List Kept) → kept_by kept n ≡ h → length h ≤ i
    → ((j : ℕ) → j < i → IsSentAt l kept n j) → AllSent l kept n
all_sent l kept n i h is le before j q b takes =
    let lt = got_within (kept_by kept n) j takes.event takes.there in
    let e = ap (λ (ds : List Kept). length ds) is in
    before j (omega (arith, lt, e, le)) q b takes

-- ---- what was sent, by slot
pub sent_more : (old new : List (List WirePacket)) (o : ByteSent WirePacket) (rest : List (ByteSent WirePacket)) (q : Peer)
    → ((k : ℕ) → sends_in new k ≡ (if slot o.to == k then sends_in old k ++ o.packet ∷ [] else sends_in old k))
    → sends_in new (slot q) ++ sent_once q rest ≡ sends_in old (slot q) ++ sent_once q (o ∷ rest)
sent_more old new o rest q h = by (same_peer o.to q) (slot o.to == slot q) (slot_same o.to q) (h (slot q))
  where
    by : (t u : Bool) → u ≡ t → sends_in new (slot q) ≡ (if u then sends_in old (slot q) ++ o.packet ∷ [] else sends_in old (slot q))
        → sends_in new (slot q) ++ sent_once q rest ≡ sends_in old (slot q) ++ (if t then o.packet ∷ sent_once q rest else sent_once q rest)
    by true true e is =
        ap (λ (bs : List WirePacket). bs ++ sent_once q rest) is ∙ append_assoc (sends_in old (slot q)) (o.packet ∷ []) (sent_once q rest)
    by true false e is = absurd (cc e)
    by false true e is = absurd (cc e)
    by false false e is = ap (λ (bs : List WirePacket). bs ++ sent_once q rest) is
