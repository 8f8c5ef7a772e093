-- What sending adds to the weight of the links, and what taking a packet takes from it.
use Rattle.std.proofs.Common.{◌≡◌, ℕ, suc, ◌+◌, ◌≤◌, List, [], ◌∷◌, length, min, refl, ap, arith}
use Rattle.std.specs.Prelude.{Some, slice_index_or, slice_set}
use Rattle.std.proofs.lemmas.Option.{slice_get_within}
use Rattle.world_laws.proofs.Types.{Out, Packet, Peer}
use Rattle.world_laws.proofs.Types.peer
use Rattle.geo_base.specs.Broker.{Broker, Site}
use Rattle.geo_base.specs.Link.{Link, next_packet, no_link, sent_on, took}
use Rattle.geo_base.specs.Plan.{Plan}
use Rattle.geo_base.specs.Setup.{Setup}
use Rattle.geo_base.specs.World.{Back, Forward, Links, cell, delivered, from_broker, link_at, node, stamped, taken_from, with_cell, with_link}
use Rattle.world_laws.proofs.Budget.ReadWeights.{out_weight, outs_weight}
use Rattle.world_laws.proofs.Walks.Shapes.{Taken}
use Rattle.world_laws.proofs.Budget.Tails.{from_behind, from_push, sum_from, whole_new}
use Rattle.world_laws.proofs.Budget.Weights.{ahead, back_weight, forward_weight, links_weight, table_weight}

-- a table with a new link in one cell; past its end there is no link
cell_new : (f : Link → ℕ) (ls : List (List Link)) (i j : ℕ) (l : Link) → f no_link ≡ 0 → table_weight f (with_cell ls i j l) + f (cell ls i j) ≤ table_weight f ls + f l
cell_new f ls i j l none =
    let r = slice_index_or ls i [] in
    let row = whole_new f no_link j r l (λ _. none) in
    let all = whole_new (λ (r : List Link). sum_from f 0 r) [] i ls (slice_set r j l) (λ _. refl) in omega (arith, row, all)

-- a table that changed and one that did not
grew_first : (a a' b c c' o : ℕ) → a' + c ≤ a + c' → c' ≤ c + o → a' + b ≤ a + b + o
grew_first a a' b c c' o new one = omega (arith, new, one)

grew_second : (a b b' c c' o : ℕ) → b' + c ≤ b + c' → c' ≤ c + o → a + b' ≤ a + b + o
grew_second a b b' c c' o new one = omega (arith, new, one)

fell_first : (a a' b c c' d : ℕ) → a' + c ≤ a + c' → c' + d ≤ c → a' + b + d ≤ a + b
fell_first a a' b c c' d new one = omega (arith, new, one)

fell_second : (a b b' c c' d : ℕ) → b' + c ≤ b + c' → c' + d ≤ c → a + b' + d ≤ a + b
fell_second a b b' c c' d new one = omega (arith, new, one)

-- one packet is sent
sent_weight : (s : Setup) (m t x stamp : ℕ) (o : Out) (to : Peer) (ls : Links)
    → links_weight m (with_link ls (from_broker s t x to) (sent_on (link_at ls (from_broker s t x to)) (stamped stamp o))) ≤ links_weight m ls + out_weight m o.frame to
sent_weight s m t x stamp o (peer.Forward y) ls =
    let l = cell ls.forward (node s t x) y in
    let l' = sent_on l (stamped stamp o) in
    grew_first (table_weight (forward_weight m) ls.forward) (table_weight (forward_weight m) (with_cell ls.forward (node s t x) y l')) (table_weight back_weight ls.back)
    (forward_weight m l) (forward_weight m l') (ahead m o.frame) (cell_new (forward_weight m) ls.forward (node s t x) y l' refl)
    (from_push (λ (p : Packet). ahead m p.frame) l.taken l.sent (stamped stamp o))
sent_weight s m t x stamp o (peer.Broker y) ls =
    let l = cell ls.forward (node s t x) y in
    let l' = sent_on l (stamped stamp o) in
    grew_first (table_weight (forward_weight m) ls.forward) (table_weight (forward_weight m) (with_cell ls.forward (node s t x) y l')) (table_weight back_weight ls.back)
    (forward_weight m l) (forward_weight m l') (ahead m o.frame) (cell_new (forward_weight m) ls.forward (node s t x) y l' refl)
    (from_push (λ (p : Packet). ahead m p.frame) l.taken l.sent (stamped stamp o))
sent_weight s m t x stamp o (peer.Back v) ls =
    let l = cell ls.back (node s t v) x in
    let l' = sent_on l (stamped stamp o) in
    grew_second (table_weight (forward_weight m) ls.forward) (table_weight back_weight ls.back) (table_weight back_weight (with_cell ls.back (node s t v) x l'))
    (back_weight l) (back_weight l') 1 (cell_new back_weight ls.back (node s t v) x l' refl) (from_push (λ (p : Packet). 1) l.taken l.sent (stamped stamp o))
sent_weight s m t x stamp o (peer.Client c) ls = omega arith

pub delivered_weight : (s : Setup) (m t x stamp : ℕ) (os : List Out) (ls : Links) → links_weight m (delivered (from_broker s t x) stamp os ls) ≤ links_weight m ls + outs_weight m os
delivered_weight s m t x stamp [] ls = omega arith
delivered_weight s m t x stamp (o ∷ os) ls =
    let more = delivered_weight s m t x stamp os (with_link ls (from_broker s t x o.to) (sent_on (link_at ls (from_broker s t x o.to)) (stamped stamp o))) in
    omega (arith, more, sent_weight s m t x stamp o o.to ls)

-- one packet is taken
took_weight : (f : Packet → ℕ) (l : Link) (p : Packet) → next_packet l ≡ Some p → sum_from f (took l).taken l.sent + f p ≤ sum_from f l.taken l.sent
took_weight f l p next =
    let lt = slice_get_within l.sent l.taken p next in
    let one : min (l.taken + 1) (length l.sent) ≡ suc l.taken = omega (arith, lt) in
    let e = ap (λ (k : ℕ). sum_from f k l.sent) one in
    omega (arith, e, from_behind f l.taken l.taken l.sent p next (omega arith))

pub taken_forward : (m i y : ℕ) (ls : Links) (p : Packet) → next_packet (link_at ls (Forward i y)) ≡ Some p
    → links_weight m (taken_from (Some (Forward i y)) ls) + ahead m p.frame ≤ links_weight m ls
taken_forward m i y ls p next =
    let l = cell ls.forward i y in
    fell_first (table_weight (forward_weight m) ls.forward) (table_weight (forward_weight m) (with_cell ls.forward i y (took l))) (table_weight back_weight ls.back)
    (forward_weight m l) (forward_weight m (took l)) (ahead m p.frame) (cell_new (forward_weight m) ls.forward i y (took l) refl)
    (took_weight (λ (p : Packet). ahead m p.frame) l p next)

pub taken_back : (m i y : ℕ) (ls : Links) (p : Packet) → next_packet (link_at ls (Back i y)) ≡ Some p
    → links_weight m (taken_from (Some (Back i y)) ls) + 1 ≤ links_weight m ls
taken_back m i y ls p next =
    let l = cell ls.back i y in
    fell_second (table_weight (forward_weight m) ls.forward) (table_weight back_weight ls.back) (table_weight back_weight (with_cell ls.back i y (took l)))
    (back_weight l) (back_weight (took l)) 1 (cell_new back_weight ls.back i y (took l) refl) (took_weight (λ (p : Packet). 1) l p next)

-- what a take sends leaves the forward links
pub take_sends_back : (s : Setup) (h : Site) (b : Broker) (t y x stamp : ℕ) (p : Packet) (q : Plan) (ls : Links) → Taken h b x p q
    → (delivered (from_broker s t y) stamp q.sent ls).forward ≡ ls.forward
take_sends_back s h b t y x stamp p q ls (Taken.Unreadable is) = refl
take_sends_back s h b t y x stamp p q ls (Taken.Opens topic id request name is opening) = refl
take_sends_back s h b t y x stamp p q ls (Taken.Discards other shut) = refl
take_sends_back s h b t y x stamp p q ls (Taken.Refuses other at may) = refl
take_sends_back s h b t y x stamp p q ls (Taken.Stores id seq source e is at may new) = refl
take_sends_back s h b t y x stamp p q ls (Taken.Repeats id seq source e is at may old) = refl
