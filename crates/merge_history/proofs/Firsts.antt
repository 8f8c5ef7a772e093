-- The first difference, one node after another.
use Rattle.std.proofs.Common.{◌≡◌, ℕ, zero, suc, ◌+◌, ◌<◌, ◌≤◌, List, [], ◌∷◌, ◌++◌, length, refl, sym, ap, subst, ◌∙◌, arith, inl, inr, ◌⊎◌}
use Rattle.std.specs.Prelude.{IfSome, Result, Ok, Err, Option, Some, None, slice_get, slice_index_or, take}
use Rattle.std.proofs.lemmas.Option.{none-some, same_Some}
use Rattle.geo_base.specs.declared.memory.Memory.{Memory}
use Rattle.geo_base.specs.declared.packet.Peer.{Peer}
use Rattle.world_laws.proofs.OnceInOrder.Members.{below_or}
use Rattle.wire_ends.specs.declared.packet.WirePacket.{WirePacket}
use Rattle.merge_history.specs.declared.differences.PacketDifference.{PacketDifference}
use Rattle.merge_history.specs.declared.walk.Found.{Found}
use Rattle.merge_history.specs.Kept.{Kept, kept_by}
use Rattle.merge_history.specs.Differences.{AllSent, IsSentAt}
use Rattle.merge_history.specs.Firsts.{AreRising, ComesBefore, IsDifference, IsEarlier, IsFirst, IsFirstBelow, IsStamped, NoneBelow}
use Rattle.merge_history.specs.Peers.{LayoutView, sent_to}
use Rattle.merge_history.specs.Slots.{sends_in, slot}
use Rattle.merge_history.specs.Walks.{AreOutboxes, IsFoundAt}
use Rattle.merge_history.proofs.Tables.{next_read}

-- ---- outboxes
pub no_outboxes : AreOutboxes [] []
no_outboxes n q = refl

pub one_outbox_more : (kept : List (List Kept)) (os : List (List (List WirePacket))) (h : List Kept) (o : List (List WirePacket)) → length os ≡ length kept
    → AreOutboxes kept os → ((q : Peer) → sends_in o (slot q) ≡ sent_to q h) → AreOutboxes (kept ++ h ∷ []) (os ++ o ∷ [])
one_outbox_more [] [] h o same are is zero q = is q
one_outbox_more [] [] h o same are is (suc n) q = refl
one_outbox_more [] (p ∷ os) h o same are is n q = absurd (omega (arith, same))
one_outbox_more (g ∷ kept) [] h o same are is n q = absurd (omega (arith, same))
one_outbox_more (g ∷ kept) (p ∷ os) h o same are is zero q = are 0 q
one_outbox_more (g ∷ kept) (p ∷ os) h o same are is (suc n) q = one_outbox_more kept os h o (omega (arith, same)) (λ m r. are (suc m) r) is n q

-- ---- the next node
-- what is earlier by stamp than the first of a node was sent
sent_before : (l : LayoutView) (kept : List (List Kept)) (n stamp : ℕ) (f : Found) → AreRising kept → IsFoundAt l kept n f
    → ((e : Kept) → slice_get (kept_by kept n) f.place ≡ Some e → stamp ≡ e.stamp)
    → (i : ℕ) (e : Kept) → slice_get (kept_by kept n) i ≡ Some e → e.stamp < stamp → IsSentAt l kept n i
sent_before l kept n stamp f rising found is i e at lt =
    let d : Kept = found.first.takes.event in
    let there : slice_get (kept_by kept n) f.place ≡ Some d = found.first.takes.there in
    let same : stamp ≡ d.stamp = is d there in
    elim (below_or i f.place) [
      | inl lt' ↦ found.first.first i lt'
      | inr ge ↦ later ge (below_or f.place i) d there same
    ]
  where
    later : f.place ≤ i → (f.place < i) ⊎ (i ≤ f.place) → (d : Kept) → slice_get (kept_by kept n) f.place ≡ Some d → stamp ≡ d.stamp → IsSentAt l kept n i
    later ge (inl lt') d there same = let up = rising n f.place i d e lt' there at in absurd (omega (arith, up, same, lt))
    later ge (inr le) d there same =
        let e' : f.place ≡ i = omega (arith, ge, le) in
        let one : d ≡ e = same_Some d e (sym there ∙ (ap (slice_get (kept_by kept n)) e' ∙ at)) in
        let s = ap (λ (x : Kept). x.stamp) one in
        absurd (omega (arith, s, same, lt))

-- all below a node, and the node itself
below_next : (m n : ℕ) → m < n + 1 → (m < n) ⊎ (m ≡ n)
below_next m n lt = elim (below_or m n) [ inl h ↦ inl h | inr h ↦ inr (omega (arith, h, lt)) ]

none_more : (l : LayoutView) (kept : List (List Kept)) (n : ℕ) → IsFirstBelow l kept n None → AllSent l kept n → IsFirstBelow l kept (n + 1) None
none_more l kept n h all m lt = elim (below_next m n lt) [ inl lt' ↦ h m lt' | inr e ↦ subst (AllSent l kept) (sym e) all ]

kept_more : (l : LayoutView) (kept : List (List Kept)) (n : ℕ) (d : PacketDifference) → IsFirst l kept n d
    → ((i : ℕ) (e : Kept) → slice_get (kept_by kept n) i ≡ Some e → ComesBefore e.stamp n d.stamp d.node → IsSentAt l kept n i) → IsFirst l kept (n + 1) d
kept_more l kept n d h own =
    let lt = h.node in record {
      node = omega (arith, lt);
      found = h.found;
      stamp = h.stamp;
      first = λ m i e lt at before.
          elim (below_next m n lt) [
            | inl lt' ↦ h.first m i e lt' at before
            | inr is ↦
                subst (λ (k : ℕ). IsSentAt l kept k i) (sym is)
                (own i e (subst (λ (k : ℕ). slice_get (kept_by kept k) i ≡ Some e) is at) (subst (λ (k : ℕ). ComesBefore e.stamp k d.stamp d.node) is before))
          ];
    }

not_behind : (s n s' n' : ℕ) → n' ≤ n → ComesBefore s n s' n' → s < s'
not_behind s n s' n' le (inl lt) = lt
not_behind s n s' n' le (inr both) = let lt = both.1 in absurd (omega (arith, lt, le))

-- a node's own first, where it is earlier than all so far
newer : (l : LayoutView) (kept : List (List Kept)) (n : ℕ) (d : PacketDifference) → AreRising kept → d.node ≡ n → IsFoundAt l kept n d.found
    → ((e : Kept) → slice_get (kept_by kept n) d.found.place ≡ Some e → d.stamp ≡ e.stamp)
    → ((m i : ℕ) (e : Kept) → m < n → slice_get (kept_by kept m) i ≡ Some e → e.stamp ≤ d.stamp → IsSentAt l kept m i) → IsFirst l kept (n + 1) d
newer l kept n d rising is found stamp others = record {
  node = omega (arith, is);
  found = subst (λ (k : ℕ). IsFoundAt l kept k d.found) (sym is) found;
  stamp = subst (λ (k : ℕ). (e : Kept) → slice_get (kept_by kept k) d.found.place ≡ Some e → d.stamp ≡ e.stamp) (sym is) stamp;
  first = λ m i e lt at before.
      elim (below_next m n lt) [
        | inl lt' ↦ others m i e lt' at (at_most e.stamp m before)
        | inr same ↦
            subst (λ (k : ℕ). IsSentAt l kept k i) (sym same)
            (sent_before l kept n d.stamp d.found rising found stamp i e (subst (λ (k : ℕ). slice_get (kept_by kept k) i ≡ Some e) same at)
            (not_behind e.stamp m d.stamp d.node (omega (arith, is, same)) before))
      ];
}
  where
    at_most : (s m : ℕ) → ComesBefore s m d.stamp d.node → s ≤ d.stamp
    at_most s m (inl lt) = omega (arith, lt)
    at_most s m (inr both) = let e = both.0 in omega (arith, e)

-- a node where each packet is the one that was sent, or whose first is found
next_found : (l : LayoutView) (kept : List (List Kept)) (n : ℕ) (first : Option PacketDifference) (d : PacketDifference) (r : Option PacketDifference) → AreRising kept → IsFirstBelow l kept n first
    → d.node ≡ n → IsFoundAt l kept n d.found → ((e : Kept) → slice_get (kept_by kept n) d.found.place ≡ Some e → d.stamp ≡ e.stamp)
    → IsEarlier first (Some d) r → IsFirstBelow l kept (n + 1) r
next_found l kept n None d r rising h is found stamp e =
    subst (IsFirstBelow l kept (n + 1)) (sym e) (newer l kept n d rising is found stamp (λ m i x lt at le. h m lt i))
next_found l kept n (Some c) d r rising h is found stamp (inl e) =
    let lt = h.node in let le = e.1 in
    subst (IsFirstBelow l kept (n + 1)) (sym e.0)
    (kept_more l kept n c h (λ i x at before.
    let early = not_behind x.stamp n c.stamp c.node (omega (arith, lt)) before in
    sent_before l kept n d.stamp d.found rising found stamp i x at (omega (arith, early, le))))
next_found l kept n (Some c) d r rising h is found stamp (inr e) =
    let lt = e.1 in
    subst (IsFirstBelow l kept (n + 1)) (sym e.0)
    (newer l kept n d rising is found stamp (λ m i x small at le. h.first m i x small at (inl (omega (arith, lt, le)))))

next_none : (l : LayoutView) (kept : List (List Kept)) (n : ℕ) (first r : Option PacketDifference) → IsFirstBelow l kept n first → AllSent l kept n → IsEarlier first None r
    → IsFirstBelow l kept (n + 1) r
next_none l kept n None r h all e = subst (IsFirstBelow l kept (n + 1)) (sym e) (none_more l kept n h all)
next_none l kept n (Some c) r h all e = subst (IsFirstBelow l kept (n + 1)) (sym e) (kept_more l kept n c h (λ i x at before. all i))

pub next_first : (l : LayoutView) (kept : List (List Kept)) (n : ℕ) (b : List Kept) (first : Option PacketDifference) (f : Option Found) (d r : Option PacketDifference) → AreRising kept
    → kept_by kept n ≡ b → IsFirstBelow l kept n first → IfSome f (IsFoundAt l kept n) → (f ≡ None → AllSent l kept n) → IsStamped b n f d → IsEarlier first d r
    → IsFirstBelow l kept (n + 1) r
next_first l kept n b first None d r rising is h found none stamped e =
    next_none l kept n first r h (none refl) (subst (λ (d : Option PacketDifference). IsEarlier first d r) stamped e)
next_first l kept n b first (Some f) None r rising is h found none stamped e =
    let d : Kept = found.first.takes.event in
    absurd (none-some d (sym stamped ∙ (ap (λ (xs : List Kept). slice_get xs f.place) (sym is) ∙ found.first.takes.there)))
next_first l kept n b first (Some f) (Some d) r rising is h found none stamped e =
    let same : f ≡ d.found = sym stamped.1 in
    next_found l kept n first d r rising h stamped.0 (subst (IsFoundAt l kept n) same found)
    (subst (λ (g : Found). (x : Kept) → slice_get (kept_by kept n) g.place ≡ Some x → d.stamp ≡ x.stamp) same
    (λ x at. stamped.2 x (ap (λ (xs : List Kept). slice_get xs f.place) (sym is) ∙ at))) e

-- a difference of all nodes so far
difference_more : (l : LayoutView) (kept : List (List Kept)) (n : ℕ) (d : PacketDifference) → IsDifference l kept n d → IsDifference l kept (n + 1) d
difference_more l kept n d h = let lt = h.node in record { node = omega (arith, lt); found = h.found }

difference_here : (l : LayoutView) (kept : List (List Kept)) (n : ℕ) (f : Found) (d : PacketDifference) → IsFoundAt l kept n f → d.node ≡ n → d.found ≡ f
    → IsDifference l kept (n + 1) d
difference_here l kept n f d found node same = record {
  node = omega (arith, node);
  found = subst (λ (k : ℕ). IsFoundAt l kept k d.found) (sym node) (subst (IsFoundAt l kept n) (sym same) found);
}

is_some : (P : PacketDifference → Type 0) (r : Option PacketDifference) (d : PacketDifference) → r ≡ Some d → P d → IfSome r P
is_some P r d is h = subst (λ (o : Option PacketDifference). IfSome o P) (sym is) h

pub next_difference : (l : LayoutView) (kept : List (List Kept)) (n : ℕ) (b : List Kept) (first : Option PacketDifference) (f : Option Found) (d r : Option PacketDifference)
    → IfSome first (IsDifference l kept n) → IfSome f (IsFoundAt l kept n) → IsStamped b n f d → IsEarlier first d r → IfSome r (IsDifference l kept (n + 1))
next_difference l kept n b None None d r h found stamped e = subst (λ (o : Option PacketDifference). IfSome o (IsDifference l kept (n + 1))) (sym (e ∙ stamped)) tt
next_difference l kept n b None (Some f) None r h found stamped e = subst (λ (o : Option PacketDifference). IfSome o (IsDifference l kept (n + 1))) (sym e) tt
next_difference l kept n b None (Some f) (Some d) r h found stamped e =
    is_some (IsDifference l kept (n + 1)) r d e (difference_here l kept n f d found stamped.0 stamped.1)
next_difference l kept n b (Some c) None d r h found stamped e =
    is_some (IsDifference l kept (n + 1)) r c (subst (λ (d : Option PacketDifference). IsEarlier (Some c) d r) stamped e) (difference_more l kept n c h)
next_difference l kept n b (Some c) (Some f) None r h found stamped e = is_some (IsDifference l kept (n + 1)) r c e (difference_more l kept n c h)
next_difference l kept n b (Some c) (Some f) (Some d) r h found stamped (inl e) = is_some (IsDifference l kept (n + 1)) r c e.0 (difference_more l kept n c h)
next_difference l kept n b (Some c) (Some f) (Some d) r h found stamped (inr e) =
    is_some (IsDifference l kept (n + 1)) r d e.0 (difference_here l kept n f d found stamped.0 stamped.1)

-- none so far
pub next_none_below : (l : LayoutView) (kept : List (List Kept)) (n : ℕ) (b : List Kept) (first : Option PacketDifference) (f : Option Found) (d r : Option PacketDifference)
    → kept_by kept n ≡ b → NoneBelow l kept n first → IfSome f (IsFoundAt l kept n) → (f ≡ None → AllSent l kept n) → IsStamped b n f d → IsEarlier first d r
    → NoneBelow l kept (n + 1) r
next_none_below l kept n b None None d r is h found none stamped e = λ nothing m lt.
    elim (below_next m n lt) [ inl lt' ↦ h refl m lt' | inr same ↦ subst (AllSent l kept) (sym same) (none refl) ]
next_none_below l kept n b None (Some f) None r is h found none stamped e = λ nothing.
    let d : Kept = found.first.takes.event in
    absurd (none-some d (sym stamped ∙ (ap (λ (xs : List Kept). slice_get xs f.place) (sym is) ∙ found.first.takes.there)))
next_none_below l kept n b None (Some f) (Some d) r is h found none stamped e = λ nothing. absurd (none-some d (sym nothing ∙ e))
next_none_below l kept n b (Some c) None d r is h found none stamped e = λ nothing.
    absurd (none-some c (sym nothing ∙ subst (λ (d : Option PacketDifference). IsEarlier (Some c) d r) stamped e))
next_none_below l kept n b (Some c) (Some f) None r is h found none stamped e = λ nothing. absurd (none-some c (sym nothing ∙ e))
next_none_below l kept n b (Some c) (Some f) (Some d) r is h found none stamped (inl e) = λ nothing. absurd (none-some c (sym nothing ∙ e.0))
next_none_below l kept n b (Some c) (Some f) (Some d) r is h found none stamped (inr e) = λ nothing. absurd (none-some d (sym nothing ∙ e.0))

-- after the last node
pub nothing_past : {X : Type 0} (xs : List (List X)) (n : ℕ) → length xs ≤ n → slice_index_or xs n [] ≡ []
nothing_past [] n le = refl
nothing_past (x ∷ xs) zero le = absurd (omega (arith, le))
nothing_past (x ∷ xs) (suc n) le = nothing_past xs n (omega (arith, le))

all_of_all : (l : LayoutView) (kept : List (List Kept)) (n : ℕ) → length kept ≤ n → ((m : ℕ) → m < n → AllSent l kept m) → (m : ℕ) → AllSent l kept m
all_of_all l kept n le h m =
    elim (below_or m n) [
      | inl lt ↦ h m lt
      | inr ge ↦ λ i q b takes.
          absurd (none-some takes.event (ap (λ (xs : List Kept). slice_get xs i) (sym (nothing_past kept m (omega (arith, le, ge)))) ∙ takes.there))
    ]

-- ---- outboxes, one node after another
length_taken : {X : Type 0} (xs : List X) (i : ℕ) → i < length xs → length (take i xs) ≡ i
length_taken [] i lt = absurd (omega (arith, lt))
length_taken (x ∷ xs) zero lt = refl
length_taken (x ∷ xs) (suc i) lt = ap suc (length_taken xs i (omega (arith, lt)))

all_taken : {X : Type 0} (xs : List X) (i : ℕ) → length xs ≤ i → take i xs ≡ xs
all_taken [] zero le = refl
all_taken [] (suc i) le = refl
all_taken (x ∷ xs) zero le = absurd (omega (arith, le))
all_taken (x ∷ xs) (suc i) le = ap (λ ys. x ∷ ys) (all_taken xs i (omega (arith, le)))

pub outboxes_more : (kept : List (List Kept)) (i : ℕ) (os : List (List (List WirePacket))) (o : List (List WirePacket)) (h : List Kept) → i < length kept
    → h ≡ slice_index_or kept i h → length os ≡ i → AreOutboxes (take i kept) os → ((q : Peer) → sends_in o (slot q) ≡ sent_to q h)
    → AreOutboxes (take (i + 1) kept) (os ++ o ∷ [])
outboxes_more kept i os o h lt at size are is =
    let many : length os ≡ length (take i kept) = size ∙ sym (length_taken kept i lt) in
    subst (λ (hs : List (List Kept)). AreOutboxes hs (os ++ o ∷ [])) (sym (next_read kept i lt h (sym at))) (one_outbox_more (take i kept) os h o many are is)

pub outboxes_all : (kept : List (List Kept)) (i : ℕ) (os : List (List (List WirePacket))) → length kept ≤ i → AreOutboxes (take i kept) os → AreOutboxes kept os
outboxes_all kept i os le are = subst (λ (hs : List (List Kept)). AreOutboxes hs os) (all_taken kept i le) are

-- a difference stands at a node of which there is a history
node_there : (l : LayoutView) (kept : List (List Kept)) (d : PacketDifference) → IsFoundAt l kept d.node d.found → d.node < length kept
node_there l kept d found =
    elim (below_or d.node (length kept)) [
      | inl lt ↦ lt
      | inr ge ↦
          let e : Kept = found.first.takes.event in
          absurd (none-some e (ap (λ (xs : List Kept). slice_get xs d.found.place) (sym (nothing_past kept d.node ge)) ∙ found.first.takes.there))
    ]

below_all : (l : LayoutView) (kept : List (List Kept)) (n : ℕ) (d : PacketDifference) → length kept ≤ n → IsFirst l kept n d → IsFirst l kept (length kept) d
below_all l kept n d le h = record {
  node = node_there l kept d h.found;
  found = h.found;
  stamp = h.stamp;
  first = λ m i e lt. h.first m i e (omega (arith, lt, le));
}

pub first_of_all : (l : LayoutView) (kept : List (List Kept)) (n : ℕ) (o : Option PacketDifference) → length kept ≤ n → IsFirstBelow l kept n o
    → IfSome o (IsFirst l kept (length kept))
first_of_all l kept n None le h = tt
first_of_all l kept n (Some d) le h = below_all l kept n d le h

pub differences_of_all : (l : LayoutView) (kept : List (List Kept)) (n : ℕ) (o : Option PacketDifference) → length kept ≤ n → IfSome o (IsDifference l kept n)
    → IfSome o (IsDifference l kept (length kept))
differences_of_all l kept n None le h = tt
differences_of_all l kept n (Some d) le h = record { node = node_there l kept d h.found; found = h.found }

pub none_of_all : (l : LayoutView) (kept : List (List Kept)) (n : ℕ) (o : Option PacketDifference) → length kept ≤ n → NoneBelow l kept n o → o ≡ None
    → (m : ℕ) → AllSent l kept m
none_of_all l kept n o le h none = all_of_all l kept n le (h none)

abbrev out_of : Result (Option PacketDifference) Memory → Option PacketDifference
out_of (Ok o) = o
out_of (Err m) = None

pub none_out : (o : Option PacketDifference) → ◌≡◌ {A = Result (Option PacketDifference) Memory} (Ok o) (Ok None) → o ≡ None
none_out o is = ap out_of is
