-- What waits in a world, at brokers and on links, is a few times its events.
use Rattle.std.proofs.Common.{◌≡◌, ℕ, zero, suc, ◌+◌, ◌*◌, ◌≤◌, List, [], ◌∷◌, length, map, replicate, refl, ap, ◌∙◌, arith}
use Rattle.std.specs.Prelude.{Option, Some, None, slice_index, slice_index_or, slice_set, sum}
use Rattle.std.proofs.lemmas.List.{length-append}
use Rattle.geo_base.specs.declared.packet.Out.{Out}
use Rattle.geo_base.specs.declared.packet.Packet.{Packet}
use Rattle.geo_base.specs.declared.packet.Peer.{Peer}
use Rattle.geo_base.specs.declared.packet.Peer.TheVariants as peer
use Rattle.geo_base.specs.Broker.{Broker, new_broker, no_broker}
use Rattle.geo_base.specs.Client.{Acted}
use Rattle.geo_base.specs.Happening.{all_discarded, broker_does, broker_halts, client_does, next_stamp, stops}
use Rattle.geo_base.specs.Link.{Link, discarded, no_link, sent_on, took, untaken}
use Rattle.geo_base.specs.Plan.{done, halted}
use Rattle.geo_base.specs.Planned.{Planned}
use Rattle.geo_base.specs.Run.{untaken_of, waiting_of}
use Rattle.geo_base.specs.Seeking.{restart}
use Rattle.geo_base.specs.Setup.{Setup}
use Rattle.geo_base.specs.World.{Back, Forward, LinkName, Links, ToBroker, ToClient, World, broker_at, cell, delivered, from_broker, from_client, link_at, node, opening_world, packet_at, stamped, taken_from, with_cell, with_link}
use Rattle.world_laws.proofs.Counters.Counts.{shape_few}
use Rattle.world_laws.proofs.Induction.Frames.{at_copies, at_map, at_set}
use Rattle.world_laws.proofs.Induction.Runs.{IsKept}
use Rattle.world_laws.proofs.Walks.Shapes.{Shape}
use Rattle.world_laws.proofs.Dispatching.SubFrames.{AllSubs}
use Rattle.world_laws.proofs.Budget.Tails.{sum_cons, sum_from, whole_new}
use Rattle.world_laws.proofs.Walks.Walk.{on_if}
use Rattle.run_report.proofs.FewSent.{shape_sent}
use Rattle.run_report.proofs.Held.{IsSmall, done_held, done_small, halted_held, halted_small, held, restarted_held, waiting_most}

-- ---- caches are small, always

abbrev pub AreSmall : World → Type 0
AreSmall w = (n : ℕ) → AllSubs IsSmall (broker_at w n)

small_does : (s : Setup) (w : World) (p : Planned) → AreSmall w → AreSmall (broker_does s w p)
unfolding broker_does
small_does s w p h =
    let k = node s p.topic p.cluster in
    on_if AreSmall p.plan.idle _ _ h (λ n. at_set (AllSubs IsSmall) w.brokers k n (done s.per_ledger (broker_at w k) p.plan) no_broker (λ _. done_small s.per_ledger (broker_at w k) p.plan (h k)) (h n))

small_halts : (s : Setup) (w : World) (k : ℕ) (p : Planned) → AreSmall w → AreSmall (broker_halts s w k p)
unfolding broker_halts
small_halts s w k p h = λ n.
    let m = node s p.topic p.cluster in
    at_set (AllSubs IsSmall) w.brokers m n (halted s.per_ledger (broker_at w m) k p.plan) no_broker (λ _. halted_small s.per_ledger (broker_at w m) k p.plan (h m)) (h n)

small_client : (s : Setup) (w : World) (c : ℕ) (k : Option LinkName) (a : Acted) → AreSmall w → AreSmall (client_does s w c k a)
unfolding client_does
small_client s w c k a h = on_if AreSmall a.idle _ _ h h

small_stops : (s : Setup) (w : World) → AreSmall w → AreSmall (stops s w)
unfolding stops
small_stops s w h = λ n. at_map (AllSubs IsSmall) (λ (b : Broker). done s.per_ledger b restart) (λ b k. done_small s.per_ledger b restart k) w.brokers n no_broker tt (h n)

small_opening : (s : Setup) → AreSmall (opening_world s)
small_opening s = λ n.
    let k = length s.clusters in at_copies (AllSubs IsSmall) (length s.topics * k) n (new_broker k (length s.clients)) no_broker tt tt

pub small_kept : (s : Setup) → IsKept s AreSmall
small_kept s = record {
  opening = small_opening s;
  idle = λ w n h. h;
  round = λ w n h. h;
  does = λ w p shape h. small_does s w p h;
  halts = λ w k p shape h. small_halts s w k p h;
  goes = λ w c a h. small_client s w c None a h;
  gets = λ w c x a h. small_client s w c (Some (ToClient c x)) a h;
  stop = λ w h. small_stops s w h;
}

-- ---- how many packets were sent between brokers

abbrev on_link : Link → ℕ
on_link l = length l.sent

abbrev in_row : List Link → ℕ
in_row r = sum_from on_link 0 r

abbrev in_table : List (List Link) → ℕ
in_table m = sum_from in_row 0 m

abbrev pub between_brokers : Links → ℕ
between_brokers ls = in_table ls.forward + in_table ls.back

new_cell : (m : List (List Link)) (i j k : ℕ) (l : Link) → on_link l ≤ on_link (cell m i j) + k → in_table (with_cell m i j l) ≤ in_table m + k
new_cell m i j k l more =
    let r = slice_index_or m i [] in
    let row = whole_new on_link no_link j r l (λ _. refl) in
    let all = whole_new in_row [] i m (slice_set r j l) (λ _. refl) in omega (arith, row, all, more)

new_link : (ls : Links) (k : LinkName) (n : ℕ) (l : Link) → on_link l ≤ on_link (link_at ls k) + n → between_brokers (with_link ls k l) ≤ between_brokers ls + n
new_link ls (Forward i y) n l more = let h = new_cell ls.forward i y n l more in omega (arith, h)
new_link ls (Back i y) n l more = let h = new_cell ls.back i y n l more in omega (arith, h)
new_link ls (ToBroker c x) n l more = omega arith
new_link ls (ToClient c x) n l more = omega arith

one_more : (l : Link) (p : Packet) → on_link (sent_on l p) ≤ on_link l + 1
one_more l p = let e = length-append l.sent (p ∷ []) in omega (arith, e)

sent_more : (to : Peer → LinkName) (stamp : ℕ) (os : List Out) (ls : Links) → between_brokers (delivered to stamp os ls) ≤ between_brokers ls + length os
sent_more to stamp [] ls = omega arith
sent_more to stamp (o ∷ os) ls =
    let l = sent_on (link_at ls (to o.to)) (stamped stamp o) in
    let one = new_link ls (to o.to) 1 l (one_more (link_at ls (to o.to)) (stamped stamp o)) in
    let rest = sent_more to stamp os (with_link ls (to o.to) l) in omega (arith, one, rest)

taken_same : (o : Option LinkName) (ls : Links) → between_brokers (taken_from o ls) ≤ between_brokers ls
taken_same None ls = omega arith
taken_same (Some k) ls = let h = new_link ls k 0 (took (link_at ls k)) (omega arith) in omega (arith, h)

-- clients send to brokers alone
client_link : (c : ℕ) (to : Peer) (ls : Links) (l : Link) → between_brokers (with_link ls (from_client c to) l) ≡ between_brokers ls
client_link c (peer.Forward x) ls l = refl
client_link c (peer.Back x) ls l = refl
client_link c (peer.Client x) ls l = refl
client_link c (peer.Broker x) ls l = refl

client_same : (c stamp : ℕ) (os : List Out) (ls : Links) → between_brokers (delivered (from_client c) stamp os ls) ≡ between_brokers ls
client_same c stamp [] ls = refl
client_same c stamp (o ∷ os) ls =
    let l = sent_on (link_at ls (from_client c o.to)) (stamped stamp o) in
    client_same c stamp os (with_link ls (from_client c o.to) l) ∙ client_link c o.to ls l

row_discarded : (r : List Link) → in_row (map discarded r) ≡ in_row r
row_discarded [] = refl
row_discarded (l ∷ ls) = ap (λ (k : ℕ). on_link l + k) (row_discarded ls)

table_discarded : (m : List (List Link)) → in_table (all_discarded m) ≡ in_table m
table_discarded [] = refl
table_discarded (r ∷ rs) = ap (λ (k : ℕ). k + in_table (all_discarded rs)) (row_discarded r) ∙ ap (λ (k : ℕ). in_row r + k) (table_discarded rs)

-- ---- what all brokers hold, and what was sent between them, against the events

abbrev pub at_all : List Broker → ℕ
at_all bs = sum_from held 0 bs

abbrev pub IsFew : World → Type 0
IsFew w = at_all w.brokers + between_brokers w.links ≤ 50 * w.events

new_at : (bs : List Broker) (k n : ℕ) (b : Broker) → held b ≤ held (slice_index_or bs k no_broker) + n → at_all (slice_set bs k b) ≤ at_all bs + n
new_at bs k n b more = let h = whole_new held no_broker k bs b (λ _. refl) in omega (arith, h, more)

few_more : (a a' l l' n m e : ℕ) → a + l ≤ 50 * e → a' ≤ a + n → l' ≤ l + m → n + m ≤ 50 → a' + l' ≤ 50 * (e + 1)
few_more a a' l l' n m e few more sent most = omega (arith, few, more, sent, most)

same_more : (a l e : ℕ) → a + l ≤ 50 * e → a + l ≤ 50 * (e + 1)
same_more a l e few = omega (arith, few)

both_parts : (a b c n : ℕ) → a ≤ b → b ≤ c + n → a ≤ c + n
both_parts a b c n h k = omega (arith, h, k)

writes_most : (n h old : ℕ) → n ≤ 3 → h ≤ old + 10 * n → h ≤ old + 30
writes_most n h old few le = omega (arith, few, le)

halt_most : (n h old : ℕ) → n ≤ 3 → h ≤ old + 10 * (n + 1) → h ≤ old + 40
halt_most n h old few le = omega (arith, few, le)

sends_most : (n l old : ℕ) → n ≤ 2 → l ≤ old + n → l ≤ old + 2
sends_most n l old few le = omega (arith, few, le)

few_does : (s : Setup) (w : World) (p : Planned) → Shape s w p → IsFew w → IsFew (broker_does s w p)
unfolding broker_does
few_does s w p shape few =
    let k = node s p.topic p.cluster in
    let old = broker_at w k in
    let to = from_broker s p.topic p.cluster in
    on_if IsFew p.plan.idle _ _ few
    (few_more (at_all w.brokers) (at_all (slice_set w.brokers k (done s.per_ledger old p.plan))) (between_brokers w.links) _ 30 2 w.events few
    (new_at w.brokers k 30 (done s.per_ledger old p.plan) (writes_most (length p.plan.writes) (held (done s.per_ledger old p.plan)) (held old) (shape_few s w p shape) (done_held s.per_ledger old p.plan)))
    (both_parts _ _ (between_brokers w.links) 2 (taken_same p.takes (delivered to _ p.plan.sent w.links)) (sends_most (length p.plan.sent) _ (between_brokers w.links) (shape_sent s w p shape) (sent_more to _ p.plan.sent w.links)))
    (omega arith))

few_halts : (s : Setup) (w : World) (k : ℕ) (p : Planned) → Shape s w p → IsFew w → IsFew (broker_halts s w k p)
unfolding broker_halts
few_halts s w k p shape few =
    let m = node s p.topic p.cluster in
    let old = broker_at w m in
    few_more (at_all w.brokers) (at_all (slice_set w.brokers m (halted s.per_ledger old k p.plan))) (between_brokers w.links) (between_brokers (taken_from p.takes w.links)) 40 0 w.events few
    (new_at w.brokers m 40 (halted s.per_ledger old k p.plan) (halt_most (length p.plan.writes) (held (halted s.per_ledger old k p.plan)) (held old) (shape_few s w p shape) (halted_held s.per_ledger old k p.plan)))
    (let h = taken_same p.takes w.links in omega (arith, h)) (omega arith)

few_client : (s : Setup) (w : World) (c : ℕ) (o : Option LinkName) (a : Acted) → IsFew w → IsFew (client_does s w c o a)
unfolding client_does
few_client s w c o a few =
    on_if IsFew a.idle _ _ few
    (few_more (at_all w.brokers) (at_all w.brokers) (between_brokers w.links) _ 0 0 w.events few (omega arith)
    (let t = taken_same o w.links in let e = client_same c (next_stamp (slice_index w.client_clocks c) (packet_at w.links o)) a.sent (taken_from o w.links) in omega (arith, t, e)) (omega arith))

all_restarted : (per : ℕ) (bs : List Broker) → at_all (map (λ (b : Broker). done per b restart) bs) ≤ at_all bs
all_restarted per [] = omega arith
all_restarted per (b ∷ bs) = let one = restarted_held per b in let rest = all_restarted per bs in omega (arith, one, rest)

few_stops : (s : Setup) (w : World) → IsFew w → IsFew (stops s w)
unfolding stops
few_stops s w few =
    few_more (at_all w.brokers) (at_all (map (λ (b : Broker). done s.per_ledger b restart) w.brokers)) (between_brokers w.links) _ 0 0 w.events few
    (let h = all_restarted s.per_ledger w.brokers in omega (arith, h))
    (let f = table_discarded w.links.forward in let b = table_discarded w.links.back in omega (arith, f, b)) (omega arith)

copies_none : {X : Type 0} (f : X → ℕ) (n : ℕ) (x : X) → f x ≡ 0 → sum_from f 0 (replicate n x) ≡ 0
copies_none f zero x none = refl
copies_none f (suc n) x none = let h = copies_none f n x none in omega (arith, none, h)

few_opening : (s : Setup) → IsFew (opening_world s)
few_opening s =
    let k = length s.clusters in
    let brokers = length s.topics * k in
    let at_brokers = copies_none held brokers (new_broker k (length s.clients)) refl in
    let links = copies_none in_row brokers (replicate k no_link) (copies_none on_link k no_link refl) in omega (arith, at_brokers, links)

pub few_kept : (s : Setup) → IsKept s IsFew
few_kept s = record {
  opening = few_opening s;
  idle = λ w n h. h;
  round = λ w n h. h;
  does = λ w p shape h. few_does s w p shape h;
  halts = λ w k p shape h. few_halts s w k p shape h;
  goes = λ w c a h. few_client s w c None a h;
  gets = λ w c x a h. few_client s w c (Some (ToClient c x)) a h;
  stop = λ w h. few_stops s w h;
}

-- ---- so it is of what waits

sums_le : {X : Type 0} (f g : X → ℕ) → ((x : X) → f x ≤ g x) → (xs : List X) → sum (map f xs) ≤ sum_from g 0 xs
sums_le f g h [] = omega arith
sums_le f g h (x ∷ xs) = let e = sum_cons (f x) (map f xs) in let rest = sums_le f g h xs in omega (arith, e, rest, h x)

untaken_most : (m : List (List Link)) → untaken_of m ≤ in_table m
untaken_most m =
    sums_le (λ (ls : List Link). sum (map untaken ls)) in_row (λ r. sums_le untaken on_link (λ l. omega arith) r) m

all_waiting : (bs : List Broker) → ((n : ℕ) → AllSubs IsSmall (slice_index_or bs n no_broker)) → sum (map waiting_of bs) ≤ at_all bs + length bs
all_waiting [] small = omega arith
all_waiting (b ∷ bs) small =
    let e = sum_cons (waiting_of b) (map waiting_of bs) in
    let one = waiting_most b (small 0) in
    let rest = all_waiting bs (λ n. small (suc n)) in omega (arith, e, one, rest)

pub waiting_few : (w : World) → AreSmall w → IsFew w
    → sum (map waiting_of w.brokers) + (untaken_of w.links.forward + untaken_of w.links.back) ≤ 50 * w.events + length w.brokers
waiting_few w small few =
    let b = all_waiting w.brokers small in
    let f = untaken_most w.links.forward in
    let k = untaken_most w.links.back in omega (arith, b, f, k, few)
