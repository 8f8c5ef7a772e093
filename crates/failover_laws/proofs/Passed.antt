-- An update that is acted on puts into the cursor all that it passes over; a halt after that write leaves it there.
use Rattle.std.proofs.Common.{◌≡◌, ℕ, zero, suc, ◌+◌, ◌<◌, ◌≤◌, Bool, true, false, List, [], ◌∷◌, ◌++◌, length, refl, sym, ap, subst, ◌∙◌, ◌==◌, arith, not}
use Rattle.std.specs.Prelude.{Option, Some, None, if◌then◌else◌, ◌&&◌, slice_get, slice_index_or, slice_set, take, is_some, nat_lt}
use Rattle.std.specs.List.{list_any}
use Rattle.std.specs.Str.{bytes_eq}
use Rattle.std.proofs.lemmas.Bool.{eq-eqb, false≢true, lt-ltb}
use Rattle.std.proofs.lemmas.Option.{none-some, same_Some}
use Rattle.std.proofs.lemmas.Slice.Eq.{bytes_eq-Decides}
use Rattle.world_laws.proofs.Types.{ClusterPosition, Cut, Entry, Write}
use Rattle.world_laws.proofs.Types.change
use Rattle.world_laws.proofs.Types.event
use Rattle.world_laws.proofs.Types.sub_kind
use Rattle.world_laws.proofs.Types.write
use Rattle.geo_base.specs.Broker.{Broker, Site, no_broker, replicator_at, sub_named, written}
use Rattle.geo_base.specs.Cache.{last_passed}
use Rattle.geo_base.specs.Cursor.{has, mark}
use Rattle.geo_base.specs.Entry.{goes_to}
use Rattle.geo_base.specs.Forwarding.{is_remote}
use Rattle.geo_base.specs.Happening.{broker_does, broker_halts, does_planned, halts_planned, happens}
use Rattle.geo_base.specs.Laws.{ArePair}
use Rattle.geo_base.specs.Markers.{read_content}
use Rattle.geo_base.specs.Name.{is_name}
use Rattle.geo_base.specs.Plan.{Plan, all_written, done, halted, unless_found}
use Rattle.geo_base.specs.Planned.{Planned, in_range, planned, planned_in}
use Rattle.geo_base.specs.Reading.{forwards, read, read_at, read_entry}
use Rattle.geo_base.specs.Replicator.{index_to_read}
use Rattle.geo_base.specs.Setup.{Setup}
use Rattle.geo_base.specs.Storing.{appending_update, update_after, with_write}
use Rattle.geo_base.specs.Subscribing.{has_room}
use Rattle.geo_base.specs.Subscription.{Subscription, new_subscription, with_acks}
use Rattle.geo_base.specs.Updating.{handled, updated_indexes, is_updated, update_writes}
use Rattle.geo_base.specs.World.{World, node, site, topic_at}
use Rattle.world_laws.proofs.Snapshotting.Building.{differ}
use Rattle.world_laws.proofs.Replicating.Cursors.{or_left, or_right}
use Rattle.world_laws.proofs.Dispatching.Remembers.{first_false, has_new, or_false, second_false}
use Rattle.world_laws.proofs.Dispatching.Serving.{named_at}
use Rattle.world_laws.proofs.Dispatching.SubFrames.{at_name}
use Rattle.world_laws.proofs.Walks.Walk.{both, on_false, on_if, on_true, right}
use Rattle.failover_laws.specs.UpdatedTo.{HasUpdatedTo, MayUpdateTo, writes_to_update}
use Rattle.failover_laws.specs.Since.{takes_back}
use Rattle.failover_laws.proofs.Lasting.{change_keeps, changes_keep, found_name, still_passed, writes_keep}

-- ---- the indexes

over_has : (a i more : ℕ) (es : List Entry) (k l : ℕ) (e : Entry) → slice_get es k ≡ Some e → k < more → is_updated a e ≡ true → l ≡ i + k → has (updated_indexes a i more es) l ≡ true
over_has a i zero es k l e at lt is same = absurd (omega (arith, lt))
over_has a i (suc more) [] k l e at lt is same = absurd (none-some e at)
over_has a i (suc more) (x ∷ es) zero l e at lt is same =
    let first : is_updated a x ≡ true = subst (λ (f : Entry). is_updated a f ≡ true) (sym (same_Some x e at)) is in
    subst (λ (t : Bool). has (if t then i ∷ updated_indexes a (i + 1) more es else updated_indexes a (i + 1) more es) l ≡ true) (sym first)
    (or_left (i == l) _ (eq-eqb i l (omega (arith, same))))
over_has a i (suc more) (x ∷ es) (suc k) l e at lt is same =
    let rest = over_has a (i + 1) more es k l e at (omega (arith, lt)) is (omega (arith, same)) in
    on_if (λ (c : List ℕ). has c l ≡ true) (is_updated a x) _ _ (or_right (i == l) _ rest) rest

-- ---- the writes

acks_pass : (per : ℕ) (b : Broker) (n : List ℕ) (a j : ℕ) (v : Subscription) → sub_named b.subs n ≡ Some v → j < length b.entries
    → HasUpdatedTo (written per b (write.Acks n (updated_indexes a 0 (j + 1) b.entries))) n a j
acks_pass per b n a j v here stands =
    let is = updated_indexes a 0 (j + 1) b.entries in
    let name : bytes_eq v.name n ≡ true = (bytes_eq-Decides v.name n).1 (found_name b.subs n v here) in
    record {
      stands = stands;
      sub = at_name n (with_acks is) v;
      here = named_at b.subs n n (with_acks is) v (λ u. refl) here;
      passed = λ k e le at p.
          subst (λ (t : Bool). has (if t then with_acks is v else v).cursor k ≡ true) (sym name)
          (has_new is v.cursor k (over_has a 0 (j + 1) b.entries k k e at (omega (arith, le)) p (omega arith)));
    }

-- what comes after it takes nothing back
behind : (per : ℕ) (b : Broker) (n : List ℕ) (a j : ℕ) (ws : List Write) → list_any (takes_back n) ws ≡ false → HasUpdatedTo b n a j → HasUpdatedTo (all_written per b ws) n a j
behind per b n a j ws h p = still_passed n b (all_written per b ws) a j (writes_keep per n b ws h) p

told_leaves : (n m : List ℕ) (h : Site) (b : Broker) (y i : ℕ) (o : Option Cut) → list_any (takes_back n) (appending_update h b m o ++ write.ReplicatorAck y i ∷ []) ≡ false
told_leaves n m h b y i None = refl
told_leaves n m h b y i (Some cut) = refl

update_leaves : (n : List ℕ) (h : Site) (b : Broker) (y i : ℕ) (v : Subscription) → list_any (takes_back n) (update_after h b v ++ write.ReplicatorAck y i ∷ []) ≡ false
update_leaves n h b y i v = told_leaves n v.name h b y i (if v.replicated then last_passed (mark v.cursor) v.cache else None)

taken_leaves : (n : List ℕ) (k : ℕ) (ws : List Write) → list_any (takes_back n) ws ≡ false → list_any (takes_back n) (take k ws ++ write.Ledger ∷ []) ≡ false
taken_leaves n zero ws h = refl
taken_leaves n (suc k) [] h = refl
taken_leaves n (suc k) (w ∷ ws) h =
    or_false (takes_back n w) (list_any (takes_back n) (take k ws ++ write.Ledger ∷ [])) (first_false (takes_back n w) (list_any (takes_back n) ws) h)
    (taken_leaves n k ws (second_false (takes_back n w) (list_any (takes_back n) ws) h))

-- one that is not here is created
found_last : (vs : List Subscription) (n : List ℕ) (v : Subscription) → v.name ≡ n → sub_named vs n ≡ None → sub_named (vs ++ v ∷ []) n ≡ Some v
found_last [] n v is e = ap (λ (t : Bool). if t then Some v else None) ((bytes_eq-Decides v.name n).1 is)
found_last (u ∷ vs) n v is e = by (bytes_eq u.name n) e (found_last vs n v is)
  where
    by : (t : Bool) → (if t then Some u else sub_named vs n) ≡ None → (sub_named vs n ≡ None → sub_named (vs ++ v ∷ []) n ≡ Some v)
        → (if t then Some u else sub_named (vs ++ v ∷ []) n) ≡ Some v
    by true e ih = absurd (none-some u (sym e))
    by false e ih = ih e

abbrev made : Broker → List ℕ → Broker
made b n = record b { subs = b.subs ++ new_subscription n sub_kind.Exclusive true [] ∷ [] }

created : (per : ℕ) (b : Broker) (n : List ℕ) → sub_named b.subs n ≡ None → written per b (write.Create n sub_kind.Exclusive true false) ≡ made b n
created per b n none = on_false (is_some (sub_named b.subs n)) b (made b n) (ap is_some none)

-- ---- the plan at a broker

abbrev pub acting : Site → Broker → ℕ → ℕ → List ℕ → ℕ → Option Subscription → Plan
acting h b a i n j o = handled a i (update_writes h b n (updated_indexes a 0 (j + 1) b.entries) o) (change.Acked n ∷ [])

done_passes : (per : ℕ) (h : Site) (b : Broker) (a i : ℕ) (n : List ℕ) (j : ℕ) (o : Option Subscription) → sub_named b.subs n ≡ o → j < length b.entries
    → HasUpdatedTo (done per b (acting h b a i n j o)) n a j
done_passes per h b a i n j (Some v) here stands =
    let is = updated_indexes a 0 (j + 1) b.entries in let b1 = written per b (write.Acks n is) in
    let ws = update_after h b (with_write (write.Acks n is) v) ++ write.ReplicatorAck a i ∷ [] in
    let p = behind per b1 n a j ws (update_leaves n h b a i (with_write (write.Acks n is) v)) (acks_pass per b n a j v here stands) in
    still_passed n (all_written per b1 ws) _ a j (changes_keep n (all_written per b1 ws) (acting h b a i n j (Some v)).changes) p
done_passes per h b a i n j None none stands =
    let is = updated_indexes a 0 (j + 1) b.entries in let v = new_subscription n sub_kind.Exclusive true [] in
    let ws = update_after h b (with_write (write.Acks n is) v) ++ write.ReplicatorAck a i ∷ [] in
    let b1 = written per (written per b (write.Create n sub_kind.Exclusive true false)) (write.Acks n is) in
    let first : HasUpdatedTo b1 n a j =
    subst (λ (c : Broker). HasUpdatedTo (written per c (write.Acks n is)) n a j) (sym (created per b n none))
    (acks_pass per (made b n) n a j v (found_last b.subs n v refl none) stands) in
    let p = behind per b1 n a j ws (update_leaves n h b a i (with_write (write.Acks n is) v)) first in
    still_passed n (all_written per b1 ws) _ a j (changes_keep n (all_written per b1 ws) (acting h b a i n j None).changes) p

halt_passes : (per : ℕ) (h : Site) (b : Broker) (a i : ℕ) (n : List ℕ) (j k : ℕ) (o : Option Subscription) → sub_named b.subs n ≡ o → j < length b.entries → writes_to_update o ≤ k
    → HasUpdatedTo (halted per b k (acting h b a i n j o)) n a j
halt_passes per h b a i n j zero (Some v) here stands le = absurd (omega (arith, le))
halt_passes per h b a i n j (suc k) (Some v) here stands le =
    let is = updated_indexes a 0 (j + 1) b.entries in let b1 = written per b (write.Acks n is) in
    let ws = update_after h b (with_write (write.Acks n is) v) ++ write.ReplicatorAck a i ∷ [] in
    let kept = take k ws ++ write.Ledger ∷ [] in
    let p = behind per b1 n a j kept (taken_leaves n k ws (update_leaves n h b a i (with_write (write.Acks n is) v))) (acks_pass per b n a j v here stands) in
    still_passed n (all_written per b1 kept) _ a j (change_keeps n (all_written per b1 kept) change.Forget) p
halt_passes per h b a i n j zero None none stands le = absurd (omega (arith, le))
halt_passes per h b a i n j (suc zero) None none stands le = absurd (omega (arith, le))
halt_passes per h b a i n j (suc (suc k)) None none stands le =
    let is = updated_indexes a 0 (j + 1) b.entries in let v = new_subscription n sub_kind.Exclusive true [] in
    let ws = update_after h b (with_write (write.Acks n is) v) ++ write.ReplicatorAck a i ∷ [] in
    let b1 = written per (written per b (write.Create n sub_kind.Exclusive true false)) (write.Acks n is) in
    let first : HasUpdatedTo b1 n a j =
    subst (λ (c : Broker). HasUpdatedTo (written per c (write.Acks n is)) n a j) (sym (created per b n none))
    (acks_pass per (made b n) n a j v (found_last b.subs n v refl none) stands) in
    let kept = take k ws ++ write.Ledger ∷ [] in
    let p = behind per b1 n a j kept (taken_leaves n k ws (update_leaves n h b a i (with_write (write.Acks n is) v))) first in
    still_passed n (all_written per b1 kept) _ a j (change_keeps n (all_written per b1 kept) change.Forget) p

-- ---- what is planned

not_own : (a y origin : ℕ) (goes : Bool) → origin ≡ a → not (a == y) ≡ true → ((origin == y) && goes) ≡ false
not_own a y origin goes is other = subst (λ (x : ℕ). ((x == y) && goes) ≡ false) (sym is) (by (a == y) other)
  where
    by : (t : Bool) → not t ≡ true → (t && goes) ≡ false
    by true h = absurd (false≢true h)
    by false h = refl

remote : (s : Setup) (t y a : ℕ) → ArePair s y a → is_remote (site s t y) a ≡ true
remote s t y a pair = both (nat_lt a (length s.clusters)) (not (a == y)) (lt-ltb a (length s.clusters) pair.1) (ap not (differ a y (λ is. pair.2 (sym is))))

ranged : (s : Setup) (t y a : ℕ) → t < length s.topics → ArePair s y a → in_range s (event.Read t y a) ≡ true
ranged s t y a lt pair =
    both (nat_lt t (length s.topics) && nat_lt y (length s.clusters)) (nat_lt a (length s.clusters))
    (both (nat_lt t (length s.topics)) (nat_lt y (length s.clusters)) (lt-ltb t (length s.topics) lt) (lt-ltb y (length s.clusters) pair.0)) (lt-ltb a (length s.clusters) pair.1)

read_is : (s : Setup) (w : World) (t y a : ℕ) (n : List ℕ) (told : List ClusterPosition) (j : ℕ) (m : MayUpdateTo s w t y a n told j)
    → read (site s t y) (topic_at s w t y) a ≡ acting (site s t y) (topic_at s w t y) a m.next.index n j (sub_named (topic_at s w t y).subs n)
unfolding read
read_is s w t y a n told j m =
    let h = site s t y in let b = topic_at s w t y in let i = m.next.index in let e = m.next.update.entry in
    on_true (is_remote h a) (read_at h b a (index_to_read (replicator_at b a).state (replicator_at b a) (length b.entries))) _ (remote s t y a m.next.pair)
    ∙ ap (read_at h b a) m.next.reads
    ∙ ap (read_entry h b a i) m.next.update.stands
    ∙ on_false ((e.ident.origin == y) && goes_to a e.to) (forwards h a (replicator_at b a) i e) _
    (not_own a y e.ident.origin (goes_to a e.to) m.next.update.origin (right (nat_lt a (length s.clusters)) (not (a == y)) (remote s t y a m.next.pair)))
    ∙ on_true (e.ident.origin == a) (read_content h b a i e.content) _ (eq-eqb e.ident.origin a m.next.update.origin)
    ∙ ap (read_content h b a i) m.next.update.is
    ∙ ap (λ (o : Option ℕ). unless_found (handled a i [] []) o (λ l.
    if is_name n && has_room b n then handled a i (update_writes h b n (updated_indexes a 0 (l + 1) b.entries) (sub_named b.subs n)) (change.Acked n ∷ [])
    else handled a i [] [])) m.names
    ∙ on_true (is_name n && has_room b n) _ _ m.may

set_there : (bs : List Broker) (k : ℕ) (c : Broker) (i : ℕ) (e : Entry) → slice_get (slice_index_or bs k no_broker).entries i ≡ Some e
    → slice_index_or (slice_set bs k c) k no_broker ≡ c
set_there [] k c i e at = absurd (none-some e at)
set_there (x ∷ bs) zero c i e at = refl
set_there (x ∷ bs) (suc k) c i e at = set_there bs k c i e at

abbrev pub plans : ℕ → ℕ → Plan → Planned
plans t y p = record { topic = t; cluster = y; takes = None; plan = p }

pub planned_is : (s : Setup) (w : World) (t y a : ℕ) (n : List ℕ) (told : List ClusterPosition) (j : ℕ) (m : MayUpdateTo s w t y a n told j)
    → planned s w (event.Read t y a) ≡ Some (plans t y (acting (site s t y) (topic_at s w t y) a m.next.index n j (sub_named (topic_at s w t y).subs n)))
unfolding planned
planned_is s w t y a n told j m =
    on_true (in_range s (event.Read t y a)) (planned_in s w (event.Read t y a)) None (ranged s t y a m.next.topic m.next.pair)
    ∙ ap (λ (p : Plan). Some (plans t y p)) (read_is s w t y a n told j m)

does_it : (s : Setup) (w : World) (t y : ℕ) (p : Plan) (i : ℕ) (e : Entry) → p.idle ≡ false → slice_get (topic_at s w t y).entries i ≡ Some e
    → topic_at s (broker_does s w (plans t y p)) t y ≡ done s.per_ledger (topic_at s w t y) p
unfolding broker_does
does_it s w t y p i e busy at =
    ap (λ (w' : World). topic_at s w' t y) (on_false p.idle _ _ busy)
    ∙ set_there w.brokers (node s t y) (done s.per_ledger (topic_at s w t y) p) i e at

halts_it : (s : Setup) (w : World) (t y k : ℕ) (p : Plan) (i : ℕ) (e : Entry) → slice_get (topic_at s w t y).entries i ≡ Some e
    → topic_at s (broker_halts s w k (plans t y p)) t y ≡ halted s.per_ledger (topic_at s w t y) k p
unfolding broker_halts
halts_it s w t y k p i e at = set_there w.brokers (node s t y) (halted s.per_ledger (topic_at s w t y) k p) i e at

pub read_passes : (s : Setup) (w : World) (t y a : ℕ) (n : List ℕ) (told : List ClusterPosition) (j : ℕ) → MayUpdateTo s w t y a n told j → HasUpdatedTo (topic_at s (happens s w (event.Read t y a)) t y) n a j
unfolding happens
read_passes s w t y a n told j m =
    let b = topic_at s w t y in let p = acting (site s t y) b a m.next.index n j (sub_named b.subs n) in
    subst (λ (o : Option Planned). HasUpdatedTo (topic_at s (does_planned s w o) t y) n a j) (sym (planned_is s w t y a n told j m))
    (subst (λ (c : Broker). HasUpdatedTo c n a j) (sym (does_it s w t y p m.next.index m.next.update.entry refl m.next.update.stands))
    (done_passes s.per_ledger (site s t y) b a m.next.index n j (sub_named b.subs n) refl m.stands))

pub halted_passes : (s : Setup) (w : World) (t y a : ℕ) (n : List ℕ) (told : List ClusterPosition) (j k : ℕ) → MayUpdateTo s w t y a n told j → writes_to_update (sub_named (topic_at s w t y).subs n) ≤ k
    → HasUpdatedTo (topic_at s (halts_planned s w k (planned s w (event.Read t y a))) t y) n a j
halted_passes s w t y a n told j k m le =
    let b = topic_at s w t y in let p = acting (site s t y) b a m.next.index n j (sub_named b.subs n) in
    subst (λ (o : Option Planned). HasUpdatedTo (topic_at s (halts_planned s w k o) t y) n a j) (sym (planned_is s w t y a n told j m))
    (subst (λ (c : Broker). HasUpdatedTo c n a j) (sym (halts_it s w t y k p m.next.index m.next.update.entry m.next.update.stands))
    (halt_passes s.per_ledger (site s t y) b a m.next.index n j k (sub_named b.subs n) refl m.stands le))

-- it counts as an event
rises : (s : Setup) (w : World) (p : Planned) → p.plan.idle ≡ false → w.events < (broker_does s w p).events
unfolding broker_does
rises s w p busy = subst (λ (w' : World). w.events < w'.events) (sym (on_false p.plan.idle _ _ busy)) (omega arith)

pub read_counts : (s : Setup) (w : World) (t y a : ℕ) (n : List ℕ) (told : List ClusterPosition) (j : ℕ) → MayUpdateTo s w t y a n told j → w.events < (happens s w (event.Read t y a)).events
unfolding happens
read_counts s w t y a n told j m =
    subst (λ (o : Option Planned). w.events < (does_planned s w o).events) (sym (planned_is s w t y a n told j m)) (rises s w _ refl)
