-- Histories of which every taken packet is the one that was sent at its place agree on every link.
use Rattle.std.proofs.Common.{◌≡◌, ℕ, ◌+◌, Bool, true, false, List, [], ◌∷◌, ◌++◌, length, refl, sym, ap, subst, ◌∙◌, ◌==◌, arith}
use Rattle.std.specs.Prelude.{Option, Some, None, if◌then◌else◌, slice_get}
use Rattle.std.proofs.lemmas.Bool.{eqb-true}
use Rattle.std.proofs.lemmas.List.{append-nil, append_assoc}
use Rattle.std.proofs.lemmas.Option.{none-some, same_Some}
use Rattle.world_laws.proofs.Types.{Packet, Peer}
use Rattle.geo_base.specs.Agreement.{IsBeginning, recorded_sent, recorded_taken}
use Rattle.geo_base.specs.Difference.{IsSent, Taking, state_before}
use Rattle.geo_base.specs.History.{RecordedEvent, taken_in, taken_over}
use Rattle.geo_base.specs.Merge.{IsMerge, Merged, of_node}
use Rattle.geo_base.specs.NodeState.{opening_state, takes_from}
use Rattle.geo_base.specs.Nodes.{link_from, node_of, same_link, taker_of}
use Rattle.geo_base.specs.Setup.{Setup}
use Rattle.geo_base.specs.World.{LinkName}
use Rattle.world_laws.proofs.Merges.HistoryPush.{taken_push}
use Rattle.world_laws.proofs.Merges.LinkTables.{same_link_is}
use Rattle.world_laws.proofs.Merges.MergeOrder.{of_append}
use Rattle.world_laws.proofs.OnceInOrder.Members.{get_right}

-- a beginning with the next one of the whole is a beginning
begins_push : (ps qs : List Packet) (p : Packet) → IsBeginning ps qs → slice_get qs (length ps) ≡ Some p → IsBeginning (ps ++ p ∷ []) qs
begins_push ps qs p h at = by h.0 h.1
  where
    by : (rest : List Packet) → qs ≡ ps ++ rest → IsBeginning (ps ++ p ∷ []) qs
    by rest whole = go rest whole (sym (next rest whole) ∙ at)
      where
        next : (rest : List Packet) → qs ≡ ps ++ rest → slice_get qs (length ps) ≡ slice_get rest 0
        next rest whole =
            let e : length ps ≡ length ps + 0 = omega arith in
            ap (λ (us : List Packet). slice_get us (length ps)) whole ∙ (ap (slice_get (ps ++ rest)) e ∙ get_right ps rest 0)

        go : (rest : List Packet) → qs ≡ ps ++ rest → slice_get rest 0 ≡ Some p → IsBeginning (ps ++ p ∷ []) qs
        go [] whole first = absurd (none-some p first)
        go (u ∷ us) whole first =
            let same : u ≡ p = same_Some u p first in
            (us, whole ∙ (ap (λ (v : Packet). ps ++ v ∷ us) same ∙ sym (append_assoc ps (p ∷ []) us)))

AllSent : Setup → List (List RecordedEvent) → List Merged → Type 0
AllSent s hs ms = (t : Taking s ms) → IsSent s hs ms t

-- one entry more of the merged list
one_more : (s : Setup) (hs : List (List RecordedEvent)) (ms earlier later : List Merged) (m : Merged) (k : LinkName) → ((t : Taking s ms) → IsSent s hs ms t)
    → ms ≡ earlier ++ m ∷ later
    → IsBeginning (taken_in s k (opening_state s m.node) (of_node m.node earlier)) (recorded_sent s hs k)
    → IsBeginning (taken_in s k (opening_state s m.node) (of_node m.node earlier ++ m.recorded ∷ [])) (recorded_sent s hs k)
one_more s hs ms earlier later m k all whole h =
    subst (λ (ps : List Packet). IsBeginning ps (recorded_sent s hs k)) (sym (taken_push s k (opening_state s m.node) (of_node m.node earlier) m.recorded))
    (by (takes_from (state_before s earlier m) m.recorded.event) m.recorded.taken refl refl)
  where
    before : List Packet
    before = taken_in s k (opening_state s m.node) (of_node m.node earlier)

    same : IsBeginning (before ++ []) (recorded_sent s hs k)
    same = subst (λ (ps : List Packet). IsBeginning ps (recorded_sent s hs k)) (sym (append-nil before)) h

    by : (q : Option Peer) (p : Option Packet) → takes_from (state_before s earlier m) m.recorded.event ≡ q → m.recorded.taken ≡ p
        → IsBeginning (before ++ taken_over s k (node_of s m.recorded.event) q p) (recorded_sent s hs k)
    by None None e e' = same
    by None (Some p) e e' = same
    by (Some q) None e e' = same
    by (Some q) (Some p) e e' = link (same_link (link_from s (node_of s m.recorded.event) q) k) refl
      where
        link : (b : Bool) → same_link (link_from s (node_of s m.recorded.event) q) k ≡ b → IsBeginning (before ++ (if b then p ∷ [] else [])) (recorded_sent s hs k)
        link false is = same
        link true is =
            let t : Taking s ms = record { earlier = earlier; entry = m; later = later; whole = whole; peer = q; packet = p; comes = e; taken = e' } in
            let P : LinkName → Type 0 =
            λ j. slice_get (recorded_sent s hs j) (length (taken_in s j (opening_state s m.node) (of_node m.node earlier))) ≡ Some p in
            begins_push before (recorded_sent s hs k) p h (subst P (same_link_is (link_from s (node_of s m.recorded.event) q) k is) (all t))

-- and so on to its end
all_more : (s : Setup) (hs : List (List RecordedEvent)) (ms earlier later : List Merged) (k : LinkName) (z : ℕ) → ((t : Taking s ms) → IsSent s hs ms t)
    → ms ≡ earlier ++ later → IsBeginning (taken_in s k (opening_state s z) (of_node z earlier)) (recorded_sent s hs k)
    → IsBeginning (taken_in s k (opening_state s z) (of_node z ms)) (recorded_sent s hs k)
all_more s hs ms earlier [] k z all whole h =
    subst (λ (as' : List Merged). IsBeginning (taken_in s k (opening_state s z) (of_node z as')) (recorded_sent s hs k)) (sym (whole ∙ append-nil earlier)) h
all_more s hs ms earlier (m ∷ later) k z all whole h =
    all_more s hs ms (earlier ++ m ∷ []) later k z all (whole ∙ sym (append_assoc earlier (m ∷ []) later))
    (subst (λ (ds : List RecordedEvent). IsBeginning (taken_in s k (opening_state s z) ds) (recorded_sent s hs k)) (sym (of_append z earlier (m ∷ [])))
    (by (m.node == z) refl))
  where
    by : (b : Bool) → (m.node == z) ≡ b
        → IsBeginning (taken_in s k (opening_state s z) (of_node z earlier ++ (if b then m.recorded ∷ [] else []))) (recorded_sent s hs k)
    by true e =
        let P : ℕ → Type 0 = λ i. IsBeginning (taken_in s k (opening_state s i) (of_node i earlier)) (recorded_sent s hs k) in
        let Q : ℕ → Type 0 = λ i. IsBeginning (taken_in s k (opening_state s i) (of_node i earlier ++ m.recorded ∷ [])) (recorded_sent s hs k) in
        let is = eqb-true m.node z e in
        subst Q is (one_more s hs ms earlier later m k all whole (subst P (sym is) h))
    by false e =
        subst (λ (ds : List RecordedEvent). IsBeginning (taken_in s k (opening_state s z) ds) (recorded_sent s hs k)) (sym (append-nil (of_node z earlier))) h

pub all_agree : (s : Setup) (hs : List (List RecordedEvent)) (ms : List Merged) → IsMerge hs ms → ((t : Taking s ms) → IsSent s hs ms t) → (k : LinkName)
    → IsBeginning (recorded_taken s hs k) (recorded_sent s hs k)
all_agree s hs ms is all k =
    subst (λ (ds : List RecordedEvent). IsBeginning (taken_in s k (opening_state s (taker_of s k)) ds) (recorded_sent s hs k)) (is.each (taker_of s k))
    (all_more s hs ms [] ms k (taker_of s k) all refl (recorded_sent s hs k, refl))
