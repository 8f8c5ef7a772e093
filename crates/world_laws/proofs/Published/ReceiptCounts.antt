-- How many receipts with a position were sent on a client's link, and how many of them were taken.
use Rattle.std.proofs.Common.{◌≡◌, ℕ, zero, suc, ◌+◌, ◌≤◌, Bool, true, false, List, [], ◌∷◌, ◌++◌, length, min, sym, ap, subst, ◌∙◌, ◌==◌, arith, inl, inr}
use Rattle.std.specs.List.{sum_by}
use Rattle.std.specs.Prelude.{Option, Some, None, if◌then◌else◌, not, slice_get, take}
use Rattle.std.proofs.Math.Nat.{min-eq_left, min-eq_right}
use Rattle.std.proofs.lemmas.Bool.{eq-eqb}
use Rattle.std.proofs.lemmas.List.Sums.{sum_by-append, sum_by-cons, sum_by-take-le, sum_by_more}
use Rattle.std.proofs.lemmas.List.{take-take, take_all}
use Rattle.std.proofs.lemmas.Option.{get_or_from_slice_get, slice_get_within}
use Rattle.world_laws.proofs.Types.{Frame, Out, Packet, Peer}
use Rattle.world_laws.proofs.Types.frame
use Rattle.world_laws.proofs.Types.peer
use Rattle.geo_base.specs.Getting.{is_duplicate}
use Rattle.geo_base.specs.Link.{Link, discarded, sent_on, took}
use Rattle.geo_base.specs.Setup.{Setup}
use Rattle.geo_base.specs.World.{Back, Forward, LinkName, Links, ToBroker, ToClient, cell, delivered, from_broker, link_at, stamped, taken_from, with_link}
use Rattle.world_laws.proofs.Induction.Frames.{cell_set}
use Rattle.world_laws.proofs.OnceInOrder.Members.{below_or}

-- ---- counts of lists

-- 1 for true
abbrev pub one : Bool → ℕ
one true = 1
one false = 0

-- a receipt with a position
abbrev pub positioned : Frame → Bool
positioned (frame.SendReceipt id n o) = not (is_duplicate o)
positioned f = false

-- 1 for a packet with such a receipt
abbrev pub receipt_in : Packet → ℕ
receipt_in p = one (positioned p.frame)

-- how many of them
abbrev pub count : List Packet → ℕ
count = sum_by receipt_in

count_grows : (n : ℕ) (ps qs : List Packet) → count (take n ps) ≤ count (take n (ps ++ qs))
count_grows zero ps qs = omega arith
count_grows (suc n) [] qs = omega arith
count_grows (suc n) (p ∷ ps) qs =
    let h = count_grows n ps qs in let a = sum_by-cons receipt_in p (take n ps) in let b = sum_by-cons receipt_in p (take n (ps ++ qs)) in omega (arith, h, a, b)

count_all : (ps : List Packet) → count (take (length ps) ps) ≡ count ps
count_all ps = ap count (take_all (length ps) ps (omega arith))

count_up : (n m : ℕ) (ps : List Packet) → n ≤ m → count (take n ps) ≤ count (take m ps)
count_up n m ps le = subst (λ (l : List Packet). count l ≤ count (take m ps)) (take-take n m ps le) (sum_by-take-le receipt_in (take m ps) n)

count_next : (n : ℕ) (ps : List Packet) (q : Packet) → slice_get ps n ≡ Some q → count (take (n + 1) ps) ≡ count (take n ps) + one (positioned q.frame)
count_next n ps q at = sum_by_more receipt_in ps n q (slice_get_within ps n q at) ∙ ap (λ (p : Packet). count (take n ps) + receipt_in p) (get_or_from_slice_get ps n q q at)

-- ---- what was taken of a link

-- n receipts at least are among the packets that were taken
abbrev pub Counted : ℕ → Link → Type 0
Counted n l = n ≤ count (take l.taken l.sent)

counted_sent : (n : ℕ) (l : Link) (p : Packet) → Counted n l → Counted n (sent_on l p)
counted_sent n l p h = let g = count_grows l.taken l.sent (p ∷ []) in omega (arith, h, g)

pub counted_discarded : (n : ℕ) (l : Link) → Counted n l → Counted n (discarded l)
counted_discarded n l h = let a = count_all l.sent in let g = sum_by-take-le receipt_in l.sent l.taken in omega (arith, h, a, g)

counted_took : (n : ℕ) (l : Link) → Counted n l → Counted n (took l)
counted_took n l h =
    elim (below_or l.taken (length l.sent)) [
      | inl lt ↦
          let g = count_up l.taken (l.taken + 1) l.sent (omega arith) in
          subst (λ (m : ℕ). n ≤ count (take m l.sent)) (sym (min-eq_left (omega (arith, lt)))) (omega (arith, h, g))
      | inr le ↦
          let a = count_all l.sent in let g = sum_by-take-le receipt_in l.sent l.taken in
          subst (λ (m : ℕ). n ≤ count (take m l.sent)) (sym (min-eq_right (omega (arith, le)))) (omega (arith, h, a, g))
    ]

-- a packet that is there, taken
pub counted_next : (n : ℕ) (l : Link) (q : Packet) → slice_get l.sent l.taken ≡ Some q → Counted n l → Counted (n + one (positioned q.frame)) (took l)
counted_next n l q at h =
    let lt = slice_get_within l.sent l.taken q at in let g = count_next l.taken l.sent q at in
    let is : min (l.taken + 1) (length l.sent) ≡ l.taken + 1 = omega (arith, lt) in
    subst (λ (m : ℕ). n + one (positioned q.frame) ≤ count (take m l.sent)) (sym is) (omega (arith, h, g))

-- ---- sending and taking, of the link of client c from x

-- a fact of a link that each packet sent on it keeps
one_kept : (s : Setup) (t y stamp c x : ℕ) (P : Link → Type 0) (push : (l : Link) (p : Packet) → P l → P (sent_on l p)) (o : Out) (to : Peer) (ls : Links) → P (cell ls.to_client c x)
    → P (cell (with_link ls (from_broker s t y to) (sent_on (link_at ls (from_broker s t y to)) (stamped stamp o))).to_client c x)
one_kept s t y stamp c x P push o (peer.Forward z) ls h = h
one_kept s t y stamp c x P push o (peer.Back z) ls h = h
one_kept s t y stamp c x P push o (peer.Broker z) ls h = h
one_kept s t y stamp c x P push o (peer.Client z) ls h =
    cell_set P ls.to_client z y _ c x
    (λ e e'. push (cell ls.to_client z y) (stamped stamp o) (subst (λ (u : ℕ). P (cell ls.to_client u y)) (sym e) (subst (λ (v : ℕ). P (cell ls.to_client c v)) (sym e') h))) h

pub broker_kept : (s : Setup) (t y stamp c x : ℕ) (P : Link → Type 0) (push : (l : Link) (p : Packet) → P l → P (sent_on l p)) (os : List Out) (ls : Links) → P (cell ls.to_client c x)
    → P (cell (delivered (from_broker s t y) stamp os ls).to_client c x)
broker_kept s t y stamp c x P push [] ls h = h
broker_kept s t y stamp c x P push (o ∷ os) ls h =
    broker_kept s t y stamp c x P push os (with_link ls (from_broker s t y o.to) (sent_on (link_at ls (from_broker s t y o.to)) (stamped stamp o))) (one_kept s t y stamp c x P push o o.to ls h)

-- and that each taking keeps
pub taken_kept : (k : Option LinkName) (c x : ℕ) (P : Link → Type 0) → ((l : Link) → P l → P (took l)) → (ls : Links) → P (cell ls.to_client c x) → P (cell (taken_from k ls).to_client c x)
taken_kept None c x P take ls h = h
taken_kept (Some (Forward a b)) c x P take ls h = h
taken_kept (Some (Back a b)) c x P take ls h = h
taken_kept (Some (ToBroker a b)) c x P take ls h = h
taken_kept (Some (ToClient a b)) c x P take ls h =
    cell_set P ls.to_client a b _ c x
    (λ e e'. take (cell ls.to_client a b) (subst (λ (u : ℕ). P (cell ls.to_client u b)) (sym e) (subst (λ (v : ℕ). P (cell ls.to_client c v)) (sym e') h))) h

pub counted_broker : (s : Setup) (t y stamp c x n : ℕ) (k : Option LinkName) (os : List Out) (ls : Links) → Counted n (cell ls.to_client c x)
    → Counted n (cell (taken_from k (delivered (from_broker s t y) stamp os ls)).to_client c x)
counted_broker s t y stamp c x n k os ls h =
    taken_kept k c x (Counted n) (λ l p. counted_took n l p) (delivered (from_broker s t y) stamp os ls) (broker_kept s t y stamp c x (Counted n) (λ l p q. counted_sent n l p q) os ls h)

pub counted_taken : (c x n : ℕ) (k : Option LinkName) (ls : Links) → Counted n (cell ls.to_client c x) → Counted n (cell (taken_from k ls).to_client c x)
counted_taken c x n k ls h = taken_kept k c x (Counted n) (λ l p. counted_took n l p) ls h

-- ---- how many go to client c

-- of one frame that is sent to a peer
abbrev pub out_one : ℕ → Frame → Peer → ℕ
out_one c f (peer.Client z) = if z == c then one (positioned f) else 0
out_one c f q = 0

abbrev pub outs : ℕ → List Out → ℕ
outs c [] = 0
outs c (o ∷ os) = out_one c o.frame o.to + outs c os

one_counted : (s : Setup) (t y stamp c x n : ℕ) (o : Out) (to : Peer) (ls : Links) → count (cell ls.to_client c x).sent ≤ n
    → count (cell (with_link ls (from_broker s t y to) (sent_on (link_at ls (from_broker s t y to)) (stamped stamp o))).to_client c x).sent ≤ n + out_one c o.frame to
one_counted s t y stamp c x n o (peer.Forward z) ls h = omega (arith, h)
one_counted s t y stamp c x n o (peer.Back z) ls h = omega (arith, h)
one_counted s t y stamp c x n o (peer.Broker z) ls h = omega (arith, h)
one_counted s t y stamp c x n o (peer.Client z) ls h =
    let extra = out_one c o.frame (peer.Client z) in
    cell_set (λ (l : Link). count l.sent ≤ n + extra) ls.to_client z y _ c x
    (λ e e'.
    let old : count (cell ls.to_client z y).sent ≤ n =
    subst (λ (u : ℕ). count (cell ls.to_client u y).sent ≤ n) (sym e) (subst (λ (v : ℕ). count (cell ls.to_client c v).sent ≤ n) (sym e') h) in
    let more = sum_by-append receipt_in (cell ls.to_client z y).sent (stamped stamp o ∷ []) in
    let here : extra ≡ one (positioned o.frame) = ap (λ (b : Bool). if b then one (positioned o.frame) else 0) (eq-eqb z c e) in
    omega (arith, old, more, here)) (omega (arith, h))

pub broker_counted : (s : Setup) (t y stamp c x n : ℕ) (os : List Out) (ls : Links) → count (cell ls.to_client c x).sent ≤ n
    → count (cell (delivered (from_broker s t y) stamp os ls).to_client c x).sent ≤ n + outs c os
broker_counted s t y stamp c x n [] ls h = omega (arith, h)
broker_counted s t y stamp c x n (o ∷ os) ls h =
    let ls' = with_link ls (from_broker s t y o.to) (sent_on (link_at ls (from_broker s t y o.to)) (stamped stamp o)) in
    let r = broker_counted s t y stamp c x (n + out_one c o.frame o.to) os ls' (one_counted s t y stamp c x n o o.to ls h) in
    omega (arith, r)
