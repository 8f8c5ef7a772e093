-- Tables that grow at their end, and lists that are read from their front.
use Rattle.std.proofs.Common.{◌≡◌, ℕ, zero, suc, ◌+◌, ◌*◌, ◌<◌, Bool, true, false, List, [], ◌∷◌, ◌++◌, length, refl, sym, ap, subst, ◌∙◌, ◌==◌, arith}
use Rattle.std.specs.Prelude.{drop, if◌then◌else◌, slice_index_or, take}
use Rattle.std.proofs.lemmas.Bool.{eqb-true, eq-eqb, false≢true}
use Rattle.std.proofs.lemmas.List.{append_assoc, at_drop_more}
use Rattle.geo_base.specs.declared.packet.Peer.{Peer}
use Rattle.geo_base.specs.declared.packet.Peer.TheVariants as peer
use Rattle.wire_ends.specs.declared.packet.WirePacket.{WirePacket}
use Rattle.world_laws.specs.ByteHistories.{ByteSent}
use Rattle.merge_history.specs.Peers.{same_peer, sent_once}
use Rattle.merge_history.specs.Slots.{sends_in, slot}
use Rattle.geo_base.proofs.Sums.{eq_apart}

-- one default more at the end
pub default_past : {X : Type 0} (xs : List X) (d : X) (k : ℕ) → slice_index_or (xs ++ d ∷ []) k d ≡ slice_index_or xs k d
default_past [] d zero = refl
default_past [] d (suc k) = refl
default_past (x ∷ xs) d zero = refl
default_past (x ∷ xs) d (suc k) = default_past xs d k

pub count_past : (ns : List ℕ) (k : ℕ) → slice_index_or (ns ++ 0 ∷ []) k 0 ≡ slice_index_or ns k 0
count_past ns k = default_past ns 0 k

pub sends_past : {X : Type 0} (ps : List (List X)) (k : ℕ) → slice_index_or (ps ++ [] ∷ []) k [] ≡ slice_index_or ps k []
sends_past ps k = default_past ps [] k

same_slot : (k m n : ℕ) → (4 * m + k == 4 * n + k) ≡ (m == n)
same_slot k m n = by (m == n) refl
  where
    by : (t : Bool) → (m == n) ≡ t → (4 * m + k == 4 * n + k) ≡ t
    by true e = eq-eqb _ _ (ap (λ (i : ℕ). 4 * i + k) (eqb-true m n e))
    by false e = eq_apart _ _ (λ is. false≢true (sym e ∙ eq-eqb m n (omega (arith, is))))

same_slot_none : (m n : ℕ) → (4 * m == 4 * n) ≡ (m == n)
same_slot_none m n = by (m == n) refl
  where
    by : (t : Bool) → (m == n) ≡ t → (4 * m == 4 * n) ≡ t
    by true e = eq-eqb _ _ (ap (λ (i : ℕ). 4 * i) (eqb-true m n e))
    by false e = eq_apart _ _ (λ is. false≢true (sym e ∙ eq-eqb m n (omega (arith, is))))

pub slot_same : (p q : Peer) → (slot p == slot q) ≡ same_peer p q
slot_same (peer.Forward y) (peer.Forward z) = same_slot_none y z
slot_same (peer.Forward y) (peer.Back z) = eq_apart _ _ (λ is. omega (arith, is))
slot_same (peer.Forward y) (peer.Client z) = eq_apart _ _ (λ is. omega (arith, is))
slot_same (peer.Forward y) (peer.Broker z) = eq_apart _ _ (λ is. omega (arith, is))
slot_same (peer.Back y) (peer.Forward z) = eq_apart _ _ (λ is. omega (arith, is))
slot_same (peer.Back y) (peer.Back z) = same_slot 1 y z
slot_same (peer.Back y) (peer.Client z) = eq_apart _ _ (λ is. omega (arith, is))
slot_same (peer.Back y) (peer.Broker z) = eq_apart _ _ (λ is. omega (arith, is))
slot_same (peer.Client y) (peer.Forward z) = eq_apart _ _ (λ is. omega (arith, is))
slot_same (peer.Client y) (peer.Back z) = eq_apart _ _ (λ is. omega (arith, is))
slot_same (peer.Client y) (peer.Client z) = same_slot 2 y z
slot_same (peer.Client y) (peer.Broker z) = eq_apart _ _ (λ is. omega (arith, is))
slot_same (peer.Broker y) (peer.Forward z) = eq_apart _ _ (λ is. omega (arith, is))
slot_same (peer.Broker y) (peer.Back z) = eq_apart _ _ (λ is. omega (arith, is))
slot_same (peer.Broker y) (peer.Client z) = eq_apart _ _ (λ is. omega (arith, is))
slot_same (peer.Broker y) (peer.Broker z) = same_slot 3 y z

-- one packet more in the slot of its peer
pub sends_more : (q : Peer) (sent : List (ByteSent WirePacket)) (i : ℕ) (o : ByteSent WirePacket) (old new : List (List WirePacket)) (whole : List WirePacket) → i < length sent
    → o ≡ slice_index_or sent i o → ((k : ℕ) → sends_in new k ≡ (if slot o.to == k then sends_in old k ++ o.packet ∷ [] else sends_in old k))
    → sends_in old (slot q) ++ sent_once q (drop i sent) ≡ whole → sends_in new (slot q) ++ sent_once q (drop (i + 1) sent) ≡ whole
sends_more q sent i o old new whole lt at pushed so_far = by (same_peer o.to q) next here
  where
    rest : List WirePacket
    rest = sent_once q (drop (i + 1) sent)

    before : List WirePacket
    before = sends_in old (slot q)

    next : sends_in new (slot q) ≡ (if same_peer o.to q then before ++ o.packet ∷ [] else before)
    next = pushed (slot q) ∙ ap (λ (t : Bool). if t then before ++ o.packet ∷ [] else before) (slot_same o.to q)

    here : sent_once q (drop i sent) ≡ (if same_peer o.to q then o.packet ∷ rest else rest)
    here = at_drop_more (sent_once q) sent i o lt ∙ ap (λ (x : ByteSent WirePacket). if same_peer x.to q then x.packet ∷ rest else rest) (sym at)

    by : (t : Bool) → sends_in new (slot q) ≡ (if t then before ++ o.packet ∷ [] else before) → sent_once q (drop i sent) ≡ (if t then o.packet ∷ rest else rest)
        → sends_in new (slot q) ++ rest ≡ whole
    by true is this =
        ap (λ (ps : List WirePacket). ps ++ rest) is ∙ append_assoc before (o.packet ∷ []) rest ∙ ap (λ (ps : List WirePacket). before ++ ps) (sym this) ∙ so_far
    by false is this = ap (λ (ps : List WirePacket). ps ++ rest) is ∙ ap (λ (ps : List WirePacket). before ++ ps) (sym this) ∙ so_far

-- what is read of a list, and its next element
pub next_left : {X : Type 0} (xs : List X) (i : ℕ) → i < length xs → (x : X) → slice_index_or xs i x ≡ x → drop i xs ≡ x ∷ drop (i + 1) xs
next_left [] i lt x is = absurd (omega (arith, lt))
next_left (y ∷ xs) zero lt x is = ap (λ z. z ∷ xs) is
next_left (y ∷ xs) (suc i) lt x is =
    let e : suc i + 1 ≡ suc (i + 1) = omega arith in
    subst (λ (j : ℕ). drop i xs ≡ x ∷ drop j (y ∷ xs)) (sym e) (next_left xs i (omega (arith, lt)) x is)

pub next_read : {X : Type 0} (xs : List X) (i : ℕ) → i < length xs → (x : X) → slice_index_or xs i x ≡ x → take (i + 1) xs ≡ take i xs ++ x ∷ []
next_read [] i lt x is = absurd (omega (arith, lt))
next_read (y ∷ xs) zero lt x is = ap (λ z. z ∷ []) is
next_read (y ∷ xs) (suc i) lt x is =
    let e : suc i + 1 ≡ suc (i + 1) = omega arith in
    subst (λ (j : ℕ). take j (y ∷ xs) ≡ y ∷ take i xs ++ x ∷ []) (sym e) (ap (λ zs. y ∷ zs) (next_read xs i (omega (arith, lt)) x is))
