-- What a node took from a peer is a beginning of what that peer sent to it, where each packet is the one that was sent.
use Rattle.std.proofs.Common.{◌≡◌, ℕ, ◌+◌, Bool, true, false, List, [], ◌∷◌, ◌++◌, length, refl, sym, ap, subst, ◌∙◌, arith}
use Rattle.std.specs.Prelude.{Option, Some, None, if◌then◌else◌, slice_get, take}
use Rattle.std.proofs.lemmas.Bool.{eqb-true}
use Rattle.std.proofs.lemmas.List.{append-nil, append_assoc}
use Rattle.std.proofs.lemmas.Option.{none-some, same_Some}
use Rattle.geo_base.specs.declared.packet.Peer.{Peer}
use Rattle.geo_base.specs.declared.packet.Peer.TheVariants as peer
use Rattle.world_laws.proofs.OnceInOrder.Members.{get_right}
use Rattle.wire_ends.specs.declared.packet.WirePacket.{WirePacket}
use Rattle.merge_history.specs.Kept.{Kept, kept_by}
use Rattle.merge_history.specs.Differences.{AllSent, Takes}
use Rattle.merge_history.specs.Peers.{LayoutView, cluster_along, end_of, home_of, peer_taken, same_peer, sent_to, taken_from, taken_once}
use Rattle.merge_history.proofs.Walking.{taken_push}

abbrev Begins : List WirePacket → List WirePacket → Type 0
Begins ps qs = (rest : List WirePacket) × (qs ≡ ps ++ rest)

-- a beginning with the next one of the whole is a beginning
begins_push : (ps qs : List WirePacket) (p : WirePacket) → Begins ps qs → slice_get qs (length ps) ≡ Some p → Begins (ps ++ p ∷ []) qs
begins_push ps qs p h at = go h.0 h.1 (sym (next h.0 h.1) ∙ at)
  where
    next : (rest : List WirePacket) → qs ≡ ps ++ rest → slice_get qs (length ps) ≡ slice_get rest 0
    next rest whole =
        let e : length ps ≡ length ps + 0 = omega arith in
        ap (λ (us : List WirePacket). slice_get us (length ps)) whole ∙ (ap (slice_get (ps ++ rest)) e ∙ get_right ps rest 0)

    go : (rest : List WirePacket) → qs ≡ ps ++ rest → slice_get rest 0 ≡ Some p → Begins (ps ++ p ∷ []) qs
    go [] whole first = absurd (none-some p first)
    go (u ∷ us) whole first =
        let same : u ≡ p = same_Some u p first in
        (us, whole ∙ (ap (λ (v : WirePacket). ps ++ v ∷ us) same ∙ sym (append_assoc ps (p ∷ []) us)))

same_peer_is : (p q : Peer) → same_peer p q ≡ true → p ≡ q
same_peer_is (peer.Forward y) (peer.Forward z) h = ap (λ n. peer.Forward n) (eqb-true y z h)
same_peer_is (peer.Forward y) (peer.Back z) h = absurd (cc h)
same_peer_is (peer.Forward y) (peer.Client z) h = absurd (cc h)
same_peer_is (peer.Forward y) (peer.Broker z) h = absurd (cc h)
same_peer_is (peer.Back y) (peer.Forward z) h = absurd (cc h)
same_peer_is (peer.Back y) (peer.Back z) h = ap (λ n. peer.Back n) (eqb-true y z h)
same_peer_is (peer.Back y) (peer.Client z) h = absurd (cc h)
same_peer_is (peer.Back y) (peer.Broker z) h = absurd (cc h)
same_peer_is (peer.Client y) (peer.Forward z) h = absurd (cc h)
same_peer_is (peer.Client y) (peer.Back z) h = absurd (cc h)
same_peer_is (peer.Client y) (peer.Client z) h = ap (λ n. peer.Client n) (eqb-true y z h)
same_peer_is (peer.Client y) (peer.Broker z) h = absurd (cc h)
same_peer_is (peer.Broker y) (peer.Forward z) h = absurd (cc h)
same_peer_is (peer.Broker y) (peer.Back z) h = absurd (cc h)
same_peer_is (peer.Broker y) (peer.Client z) h = absurd (cc h)
same_peer_is (peer.Broker y) (peer.Broker z) h = ap (λ n. peer.Broker n) (eqb-true y z h)

-- a history is what was read of it and the rest
read_so_far : {X : Type 0} (front : List X) (x : X) (rest : List X) → take (length front) (front ++ x ∷ rest) ≡ front
read_so_far [] x rest = refl
read_so_far (y ∷ front) x rest = ap (λ zs. y ∷ zs) (read_so_far front x rest)

next_there : {X : Type 0} (front : List X) (x : X) (rest : List X) → slice_get (front ++ x ∷ rest) (length front) ≡ Some x
next_there [] x rest = refl
next_there (y ∷ front) x rest = next_there front x rest

more : (l : LayoutView) (kept : List (List Kept)) (n : ℕ) (q : Peer) (front ds : List Kept) → AllSent l kept n → kept_by kept n ≡ front ++ ds
    → Begins (taken_from q (home_of l n).cluster front) (sent_to (end_of l n q).peer (kept_by kept (end_of l n q).node))
    → Begins (taken_from q (home_of l n).cluster (front ++ ds)) (sent_to (end_of l n q).peer (kept_by kept (end_of l n q).node))
more l kept n q front [] all whole h =
    subst (λ (us : List Kept). Begins (taken_from q (home_of l n).cluster us) (sent_to (end_of l n q).peer (kept_by kept (end_of l n q).node))) (sym (append-nil front)) h
more l kept n q front (d ∷ ds) all whole h =
    subst (λ (us : List Kept). Begins (taken_from q x us) sent) (append_assoc front (d ∷ []) ds)
    (more l kept n q (front ++ d ∷ []) ds all (whole ∙ sym (append_assoc front (d ∷ []) ds))
    (subst (λ (bs : List WirePacket). Begins bs sent) (sym (taken_push q x front d)) (by (peer_taken (cluster_along x front) d.event) d.taken refl refl)))
  where
    x : ℕ
    x = (home_of l n).cluster

    sent : List WirePacket
    sent = sent_to (end_of l n q).peer (kept_by kept (end_of l n q).node)

    before : List WirePacket
    before = taken_from q x front

    same : Begins (before ++ []) sent
    same = subst (λ (bs : List WirePacket). Begins bs sent) (sym (append-nil before)) h

    by : (p : Option Peer) (b : Option WirePacket) → peer_taken (cluster_along x front) d.event ≡ p → d.taken ≡ b → Begins (before ++ taken_once q p b) sent
    by None None e e' = same
    by None (Some b) e e' = same
    by (Some p) None e e' = same
    by (Some p) (Some b) e e' = at (same_peer p q) refl
      where
        at : (t : Bool) → same_peer p q ≡ t → Begins (before ++ (if t then b ∷ [] else [])) sent
        at false is = same
        at true is =
            let here : take (length front) (kept_by kept n) ≡ front = ap (take (length front)) whole ∙ read_so_far front d ds in
            let takes : Takes l kept n (length front) q b = record {
              event = d;
              there = ap (λ (us : List Kept). slice_get us (length front)) whole ∙ next_there front d ds;
              comes = ap (λ (us : List Kept). peer_taken (cluster_along x us) d.event) here ∙ (e ∙ ap (λ p. Some p) (same_peer_is p q is));
              taken = e';
            } in
            begins_push before sent b h
            (sym (ap (λ (us : List Kept). slice_get sent (length (taken_from q x us))) here) ∙ all (length front) q b takes)

pub agreed : (l : LayoutView) (kept : List (List Kept)) (n : ℕ) (q : Peer) → AllSent l kept n
    → (rest : List WirePacket) × (sent_to (end_of l n q).peer (kept_by kept (end_of l n q).node) ≡ taken_from q (home_of l n).cluster (kept_by kept n) ++ rest)
agreed l kept n q all = more l kept n q [] (kept_by kept n) all refl (sent_to (end_of l n q).peer (kept_by kept (end_of l n q).node), refl)
