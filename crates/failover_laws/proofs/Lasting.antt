-- What a cursor has it keeps: through each write but a deletion and a seek of its own, through each change of memory, each event, halt
-- and stop.
use Rattle.std.proofs.Common.{◌≡◌, ℕ, zero, suc, ◌<◌, ◌≤◌, Bool, true, false, List, [], ◌∷◌, ◌++◌, length, map, filter, refl, sym, ap, subst, ◌∙◌, arith, not, inl, inr}
use Rattle.std.specs.Prelude.{◌⊎◌, Option, Some, None, if◌then◌else◌, ◌&&◌, slice_get, slice_index_or, slice_set, take, is_some}
use Rattle.std.specs.List.{list_any}
use Rattle.std.specs.Str.{bytes_eq}
use Rattle.std.proofs.lemmas.Bool.{eq-eqb, false≢true}
use Rattle.std.proofs.lemmas.Option.{none-some, slice_get_within}
use Rattle.std.proofs.lemmas.Slice.Eq.{bytes_eq-Decides}
use Rattle.world_laws.proofs.Types.{Change, Entry, Event, Position, Write}
use Rattle.world_laws.proofs.Types.change
use Rattle.world_laws.proofs.Types.event
use Rattle.world_laws.proofs.Types.write
use Rattle.geo_base.specs.Broker.{Broker, changed, no_broker, sub_named, written}
use Rattle.geo_base.specs.Cache.{cached}
use Rattle.geo_base.specs.Cursor.{has}
use Rattle.geo_base.specs.Dispatcher.{given, skipped_index}
use Rattle.geo_base.specs.Happening.{broker_does, broker_halts, client_does, does_planned, halts_planned, happens, stops}
use Rattle.geo_base.specs.Moments.{partly_written}
use Rattle.geo_base.specs.Plan.{Plan, all_changed, all_written, done, halted}
use Rattle.geo_base.specs.Planned.{Planned, has_client, planned}
use Rattle.geo_base.specs.Safe.{IsEntry}
use Rattle.geo_base.specs.Seeking.{restart}
use Rattle.geo_base.specs.Setup.{Setup}
use Rattle.geo_base.specs.Client.{Acted}
use Rattle.geo_base.specs.Subscription.{Subscription, after_acks, attached, cleared, detached, permitted, sought, with_acks}
use Rattle.geo_base.specs.Topic.{grown, index_of}
use Rattle.geo_base.specs.Updating.{only_index}
use Rattle.geo_base.specs.World.{LinkName, World, broker_at, node, topic_at}
use Rattle.world_laws.proofs.Induction.Frames.{at_set}
use Rattle.world_laws.proofs.TopicOrder.Ledgers.{grown_some, opened_some, still_grown, still_opened}
use Rattle.world_laws.proofs.OnceInOrder.Members.{get_push}
use Rattle.world_laws.proofs.Dispatching.Remembers.{first_false, has_still, or_false, second_false}
use Rattle.world_laws.proofs.Telling.ServeTells.{named_is}
use Rattle.world_laws.proofs.Dispatching.Serving.{named_at, named_map}
use Rattle.world_laws.proofs.Dispatching.SubFrames.{at_name}
use Rattle.world_laws.proofs.Walks.Walk.{on_if}
use Rattle.failover_laws.specs.UpdatedTo.{HasUpdatedTo}
use Rattle.failover_laws.specs.Since.{AfterEvent, AfterHalt, AfterRound, AfterStop, Idling, KeepsPlaces, Resuming, Since, Starting, StaysAcknowledged, StillHas, is_at, leaves, leaves_behind, takes_back}
use Rattle.geo_base.proofs.Lists.{get_some_below}

-- ---- one broker

pub keeps : (n : List ℕ) (b : Broker) → StaysAcknowledged n b b
keeps n b = record { longer = omega arith; same = λ k e lt h. h; places = λ some. record { some = some; index = λ p i h. h }; cursor = λ u here. record { sub = u; here = here; all = λ i h. h } }

then_has : (n : List ℕ) (c d : Broker) (u : Subscription) (h : StillHas c n u) → StillHas d n h.sub → StillHas d n u
then_has n c d u h k = record { sub = k.sub; here = k.here; all = λ i has_it. k.all i (h.all i has_it) }

pub then_keeps : (n : List ℕ) (b c d : Broker) → StaysAcknowledged n b c → StaysAcknowledged n c d → StaysAcknowledged n b d
then_keeps n b c d h k =
    let l = h.longer in let l' = k.longer in
    record {
      longer = omega (arith, l, l');
      same = λ i e lt at. h.same i e lt (k.same i e (omega (arith, lt, l)) at);
      places = λ some. let p = h.places some in let q = k.places p.some in record { some = q.some; index = λ a i at. q.index a i (p.index a i at) };
      cursor = λ u here. let f = h.cursor u here in then_has n c d u f (k.cursor f.sub f.here);
    }

-- the entries and the ledgers are as they were
record SameTopic (b b' : Broker) : Type 0 where
  entries : b'.entries ≡ b.entries
  ledgers : b'.ledgers ≡ b.ledgers

quietly : (n : List ℕ) (b b' : Broker) → SameTopic b b' → ((u : Subscription) → sub_named b.subs n ≡ Some u → StillHas b' n u) → StaysAcknowledged n b b'
quietly n b b' same cursor = record {
  longer = subst (λ (es : List Entry). length b.entries ≤ length es) (sym same.entries) (omega arith);
  same = λ k e lt h. subst (λ (es : List Entry). slice_get es k ≡ Some e) same.entries h;
  places = λ some. subst (KeepsPlaces b.ledgers) (sym same.ledgers) (record { some = some; index = λ p i h. h });
  cursor = cursor;
}

abbrev Grows : (Subscription → Subscription) → Type 0
Grows f = (u : Subscription) (i : ℕ) → has u.cursor i ≡ true → has (f u).cursor i ≡ true

-- what is done to the subscriptions of a name
named_grows : (n m : List ℕ) (f : Subscription → Subscription) (b b' : Broker) → ((u : Subscription) → (f u).name ≡ u.name) → Grows f
    → SameTopic b b' → b'.subs ≡ map (at_name m f) b.subs → StaysAcknowledged n b b'
named_grows n m f b b' same grows es subs =
    quietly n b b' es (λ u here. record {
      sub = at_name m f u;
      here = ap (λ (vs : List Subscription). sub_named vs n) subs ∙ named_at b.subs n m f u same here;
      all = λ i h. on_if (λ (v : Subscription). has v.cursor i ≡ true) (bytes_eq u.name m) (f u) u (grows u i h) h;
    })

-- to all
all_grow : (n : List ℕ) (f : Subscription → Subscription) (b b' : Broker) → ((u : Subscription) → (f u).name ≡ u.name) → Grows f
    → SameTopic b b' → b'.subs ≡ map f b.subs → StaysAcknowledged n b b'
all_grow n f b b' same grows es subs =
    quietly n b b' es (λ u here. record {
      sub = f u;
      here = ap (λ (vs : List Subscription). sub_named vs n) subs ∙ named_map f same b.subs n u here;
      all = grows u;
    })

same_subs : (n : List ℕ) (b b' : Broker) → SameTopic b b' → b'.subs ≡ b.subs → StaysAcknowledged n b b'
same_subs n b b' es subs = quietly n b b' es (λ u here. record { sub = u; here = ap (λ (vs : List Subscription). sub_named vs n) subs ∙ here; all = λ i h. h })

-- one more subscription
found_push : (vs : List Subscription) (x : Subscription) (n : List ℕ) (u : Subscription) → sub_named vs n ≡ Some u → sub_named (vs ++ x ∷ []) n ≡ Some u
found_push [] x n u e = absurd (none-some u e)
found_push (v ∷ vs) x n u e = by (bytes_eq v.name n) e (found_push vs x n u)
  where
    by : (t : Bool) → (if t then Some v else sub_named vs n) ≡ Some u → (sub_named vs n ≡ Some u → sub_named (vs ++ x ∷ []) n ≡ Some u)
        → (if t then Some v else sub_named (vs ++ x ∷ []) n) ≡ Some u
    by true e ih = e
    by false e ih = ih e

-- some less, of another name
apart : (a m n : List ℕ) → bytes_eq m n ≡ false → bytes_eq a n ≡ true → bytes_eq a m ≡ false
apart a m n other is = by (bytes_eq a m) refl
  where
    by : (t : Bool) → bytes_eq a m ≡ t → bytes_eq a m ≡ false
    by false e = e
    by true e =
        let same : a ≡ m = (bytes_eq-Decides a m).0 e in
        absurd (false≢true (sym other ∙ subst (λ (k : List ℕ). bytes_eq k n ≡ true) same is))

found_filter : (m n : List ℕ) (vs : List Subscription) (u : Subscription) → bytes_eq m n ≡ false → sub_named vs n ≡ Some u
    → sub_named (filter (λ (s : Subscription). not (bytes_eq s.name m)) vs) n ≡ Some u
found_filter m n [] u other e = absurd (none-some u e)
found_filter m n (v ∷ vs) u other e = by (filter (λ (s : Subscription). not (bytes_eq s.name m)) vs) (bytes_eq v.name m) (bytes_eq v.name n) refl refl e (found_filter m n vs u other)
  where
    by : (rest : List Subscription) (p q : Bool) → bytes_eq v.name m ≡ p → bytes_eq v.name n ≡ q → (if q then Some v else sub_named vs n) ≡ Some u
        → (sub_named vs n ≡ Some u → sub_named rest n ≡ Some u) → sub_named (if not p then v ∷ rest else rest) n ≡ Some u
    by rest true true is found e ih = absurd (false≢true (sym (apart v.name m n other found) ∙ is))
    by rest true false is found e ih = ih e
    by rest false true is found e ih = ap (λ (t : Bool). if t then Some v else sub_named rest n) found ∙ e
    by rest false false is found e ih = ap (λ (t : Bool). if t then Some v else sub_named rest n) found ∙ ih e

pub found_name : (vs : List Subscription) (n : List ℕ) (u : Subscription) → sub_named vs n ≡ Some u → u.name ≡ n
found_name vs n u e = (bytes_eq-Decides u.name n).0 (named_is vs n u e)

-- a subscription of another name is sought
sought_apart : (m n : List ℕ) (f : Subscription → Subscription) (b b' : Broker) → bytes_eq m n ≡ false → ((u : Subscription) → (f u).name ≡ u.name)
    → SameTopic b b' → b'.subs ≡ map (at_name m f) b.subs → StaysAcknowledged n b b'
sought_apart m n f b b' other same es subs =
    quietly n b b' es (λ u here. record {
      sub = at_name m f u;
      here = ap (λ (vs : List Subscription). sub_named vs n) subs ∙ named_at b.subs n m f u same here;
      all = λ i h. subst (λ (t : Bool). has (if t then f u else u).cursor i ≡ true) (sym (apart u.name m n other (named_is b.subs n u here))) h;
    })

opened_keeps : (n : List ℕ) (b : Broker) → StaysAcknowledged n b (record b { ledgers = b.ledgers ++ 0 ∷ [] })
opened_keeps n b = record {
  longer = omega arith;
  same = λ k e lt h. h;
  places = λ some. record { some = opened_some b.ledgers; index = still_opened b.ledgers };
  cursor = λ u here. record { sub = u; here = here; all = λ i h. h };
}

appended_keeps : (per : ℕ) (n : List ℕ) (b b' : Broker) (x : Entry) → b'.entries ≡ b.entries ++ x ∷ [] → b'.ledgers ≡ grown per b.ledgers → b'.subs ≡ b.subs
    → StaysAcknowledged n b b'
appended_keeps per n b b' x es ledgers subs = record {
  longer = subst (λ (l : List Entry). length b.entries ≤ length l) (sym es) (grown b.entries);
  same = λ k e lt h. old k e lt (get_push b.entries x k e (subst (λ (l : List Entry). slice_get l k ≡ Some e) es h));
  places = λ some.
      subst (KeepsPlaces b.ledgers) (sym ledgers) (record { some = grown_some per b.ledgers some; index = λ p i at. still_grown per b.ledgers p i some at });
  cursor = λ u here. record { sub = u; here = ap (λ (vs : List Subscription). sub_named vs n) subs ∙ here; all = λ i h. h };
}
  where
    grown : (l : List Entry) → length l ≤ length (l ++ x ∷ [])
    grown [] = omega arith
    grown (y ∷ l) = let ih = grown l in omega (arith, ih)

    old : (k : ℕ) (e : Entry) → k < length b.entries → ((k < length b.entries) × (slice_get b.entries k ≡ Some e)) ⊎ ((k ≡ length b.entries) × (x ≡ e)) → IsEntry b k e
    old k e lt (inl h) = h.1
    old k e lt (inr h) = let is = h.0 in absurd (omega (arith, lt, is))

pub write_keeps : (per : ℕ) (n : List ℕ) (b : Broker) (w : Write) → takes_back n w ≡ false → StaysAcknowledged n b (written per b w)
write_keeps per n b (write.Append e) h = appended_keeps per n b _ e refl refl refl
write_keeps per n b (write.Create m kind replicated latest) h =
    on_if (λ (c : Broker). StaysAcknowledged n b c) (is_some (sub_named b.subs m)) _ _ (keeps n b)
    (quietly n b _ (record { entries = refl; ledgers = refl }) (λ u here. record { sub = u; here = found_push b.subs _ n u here; all = λ i k. k }))
write_keeps per n b (write.Alter m kind replicated) h = named_grows n m (λ s. record s { kind = kind; replicated = replicated }) b _ (λ u. refl) (λ u i k. k) (record { entries = refl; ledgers = refl }) refl
write_keeps per n b (write.Delete m) h = quietly n b _ (record { entries = refl; ledgers = refl }) (λ u here. record { sub = u; here = found_filter m n b.subs u h here; all = λ i k. k })
write_keeps per n b (write.Acks m is) h = named_grows n m (with_acks is) b _ (λ u. refl) (λ u i k. has_still is u.cursor i k) (record { entries = refl; ledgers = refl }) refl
write_keeps per n b (write.Seek m i) h = sought_apart m n (sought i) b _ h (λ u. refl) (record { entries = refl; ledgers = refl }) refl
write_keeps per n b (write.ReplicatorAck y i) h = same_subs n b _ (record { entries = refl; ledgers = refl }) refl
write_keeps per n b (write.SessionNumber y session) h = same_subs n b _ (record { entries = refl; ledgers = refl }) refl
write_keeps per n b write.Ledger h = opened_keeps n b

pub change_keeps : (n : List ℕ) (b : Broker) (c : Change) → StaysAcknowledged n b (changed b c)
change_keeps n b (change.Receiver x session) = same_subs n b _ (record { entries = refl; ledgers = refl }) refl
change_keeps n b (change.Client c session) = same_subs n b _ (record { entries = refl; ledgers = refl }) refl
change_keeps n b (change.Attach m k) = named_grows n m (attached k) b _ (λ u. refl) (λ u i h. h) (record { entries = refl; ledgers = refl }) refl
change_keeps n b (change.Detach c) = all_grow n (detached c) b _ (λ u. refl) (λ u i h. h) (record { entries = refl; ledgers = refl }) refl
change_keeps n b (change.Permit m c permits) = named_grows n m (permitted c permits) b _ (λ u. refl) (λ u i h. h) (record { entries = refl; ledgers = refl }) refl
change_keeps n b (change.Skipped m i) = named_grows n m (skipped_index i) b _ (λ u. refl) (λ u i h. h) (record { entries = refl; ledgers = refl }) refl
change_keeps n b (change.Given m i at) = named_grows n m (given i at) b _ (λ u. refl) (λ u i h. h) (record { entries = refl; ledgers = refl }) refl
change_keeps n b (change.Cache m snapshot) = named_grows n m (λ s. record s { cache = cached s.cache snapshot }) b _ (λ u. refl) (λ u i h. h) (record { entries = refl; ledgers = refl }) refl
change_keeps n b (change.Acked m) = named_grows n m after_acks b _ (λ u. refl) (λ u i h. h) (record { entries = refl; ledgers = refl }) refl
change_keeps n b (change.Cleared m) = named_grows n m cleared b _ (λ u. refl) (λ u i h. h) (record { entries = refl; ledgers = refl }) refl
change_keeps n b (change.Opening y) = same_subs n b _ (record { entries = refl; ledgers = refl }) refl
change_keeps n b (change.Opened y) = same_subs n b _ (record { entries = refl; ledgers = refl }) refl
change_keeps n b (change.Pend y i) = same_subs n b _ (record { entries = refl; ledgers = refl }) refl
change_keeps n b (change.ReadTo y i) = same_subs n b _ (record { entries = refl; ledgers = refl }) refl
change_keeps n b (change.Unpend y number) = same_subs n b _ (record { entries = refl; ledgers = refl }) refl
change_keeps n b (change.Building o) = same_subs n b _ (record { entries = refl; ledgers = refl }) refl
change_keeps n b change.Forget = all_grow n cleared b _ (λ u. refl) (λ u i h. h) (record { entries = refl; ledgers = refl }) refl

pub writes_keep : (per : ℕ) (n : List ℕ) (b : Broker) (ws : List Write) → list_any (takes_back n) ws ≡ false → StaysAcknowledged n b (all_written per b ws)
writes_keep per n b [] h = keeps n b
writes_keep per n b (w ∷ ws) h =
    then_keeps n b (written per b w) _ (write_keeps per n b w (first_false (takes_back n w) (list_any (takes_back n) ws) h))
    (writes_keep per n (written per b w) ws (second_false (takes_back n w) (list_any (takes_back n) ws) h))

pub changes_keep : (n : List ℕ) (b : Broker) (cs : List Change) → StaysAcknowledged n b (all_changed b cs)
changes_keep n b [] = keeps n b
changes_keep n b (c ∷ cs) = then_keeps n b (changed b c) _ (change_keeps n b c) (changes_keep n (changed b c) cs)

none_either : (n : List ℕ) (ws : List Write) → list_any (takes_back n) ws ≡ false → list_any (takes_back n) (ws ++ write.Ledger ∷ []) ≡ false
none_either n [] h = refl
none_either n (w ∷ ws) h =
    or_false (takes_back n w) (list_any (takes_back n) (ws ++ write.Ledger ∷ [])) (first_false (takes_back n w) (list_any (takes_back n) ws) h)
    (none_either n ws (second_false (takes_back n w) (list_any (takes_back n) ws) h))

done_keeps : (per : ℕ) (n : List ℕ) (b : Broker) (p : Plan) → list_any (takes_back n) p.writes ≡ false → StaysAcknowledged n b (done per b p)
done_keeps per n b p h = then_keeps n b (all_written per b p.writes) _ (writes_keep per n b p.writes h) (changes_keep n (all_written per b p.writes) p.changes)

halted_keeps : (per : ℕ) (n : List ℕ) (b : Broker) (k : ℕ) (p : Plan) → list_any (takes_back n) (take k p.writes) ≡ false → StaysAcknowledged n b (halted per b k p)
halted_keeps per n b k p h =
    let ws = take k p.writes ++ write.Ledger ∷ [] in
    then_keeps n b (all_written per b ws) _ (writes_keep per n b ws (none_either n (take k p.writes) h)) (change_keeps n (all_written per b ws) change.Forget)

-- ---- a world

part_false : (a b : Bool) → a ≡ true → not (a && b) ≡ true → b ≡ false
part_false true true h k = absurd (false≢true k)
part_false true false h k = refl
part_false false b h k = absurd (false≢true h)

-- the broker of what is planned becomes another one
set_keeps : (s : Setup) (w : World) (t y : ℕ) (n : List ℕ) (p : Planned) (ws : List Write) (c : Broker) → not (is_at s t y p && list_any (takes_back n) ws) ≡ true
    → (list_any (takes_back n) ws ≡ false → StaysAcknowledged n (topic_at s w p.topic p.cluster) c)
    → StaysAcknowledged n (topic_at s w t y) (slice_index_or (slice_set w.brokers (node s p.topic p.cluster) c) (node s t y) no_broker)
set_keeps s w t y n p ws c left kept =
    at_set (λ (b : Broker). StaysAcknowledged n (topic_at s w t y) b) w.brokers (node s p.topic p.cluster) (node s t y) c no_broker
    (λ is. subst (λ (z : ℕ). StaysAcknowledged n (broker_at w z) c) is (kept (part_false (is_at s t y p) (list_any (takes_back n) ws) (eq-eqb _ _ is) left)))
    (keeps n (topic_at s w t y))

does_keep : (s : Setup) (w : World) (t y : ℕ) (n : List ℕ) (o : Option Planned) → leaves s t y n o ≡ true → StaysAcknowledged n (topic_at s w t y) (topic_at s (does_planned s w o) t y)
unfolding broker_does
does_keep s w t y n None h = keeps n (topic_at s w t y)
does_keep s w t y n (Some p) h =
    on_if (λ (w' : World). StaysAcknowledged n (topic_at s w t y) (topic_at s w' t y)) p.plan.idle _ _ (keeps n (topic_at s w t y))
    (set_keeps s w t y n p p.plan.writes _ h (λ none. done_keeps s.per_ledger n (topic_at s w p.topic p.cluster) p.plan none))

halts_keep : (s : Setup) (w : World) (t y : ℕ) (n : List ℕ) (k : ℕ) (o : Option Planned) → leaves_behind k s t y n o ≡ true
    → StaysAcknowledged n (topic_at s w t y) (topic_at s (halts_planned s w k o) t y)
unfolding broker_halts
halts_keep s w t y n k None h = keeps n (topic_at s w t y)
halts_keep s w t y n k (Some p) h =
    set_keeps s w t y n p (take k p.plan.writes) _ h (λ none. halted_keeps s.per_ledger n (topic_at s w p.topic p.cluster) k p.plan none)

partly_keeps : (s : Setup) (w : World) (t y : ℕ) (n : List ℕ) (k : ℕ) (o : Option Planned) → leaves_behind k s t y n o ≡ true
    → StaysAcknowledged n (topic_at s w t y) (topic_at s (partly_written s w k o) t y)
partly_keeps s w t y n k None h = keeps n (topic_at s w t y)
partly_keeps s w t y n k (Some p) h =
    set_keeps s w t y n p (take k p.plan.writes) _ h (λ none. writes_keep s.per_ledger n (topic_at s w p.topic p.cluster) (take k p.plan.writes) none)

client_keeps : (s : Setup) (w : World) (t y : ℕ) (n : List ℕ) (c : ℕ) (l : Option LinkName) (a : Acted) → StaysAcknowledged n (topic_at s w t y) (topic_at s (client_does s w c l a) t y)
unfolding client_does
client_keeps s w t y n c l a = on_if (λ (w' : World). StaysAcknowledged n (topic_at s w t y) (topic_at s w' t y)) a.idle _ _ (keeps n (topic_at s w t y)) (keeps n (topic_at s w t y))

event_keeps : (s : Setup) (w : World) (t y : ℕ) (n : List ℕ) (e : Event) → leaves s t y n (planned s w e) ≡ true → StaysAcknowledged n (topic_at s w t y) (topic_at s (happens s w e) t y)
unfolding happens
event_keeps s w t y n (event.Go c) h =
    on_if (λ (w' : World). StaysAcknowledged n (topic_at s w t y) (topic_at s w' t y)) (has_client s c) _ _ (client_keeps s w t y n c _ _) (keeps n (topic_at s w t y))
event_keeps s w t y n (event.Reconnect c) h =
    on_if (λ (w' : World). StaysAcknowledged n (topic_at s w t y) (topic_at s w' t y)) (has_client s c) _ _ (client_keeps s w t y n c _ _) (keeps n (topic_at s w t y))
event_keeps s w t y n (event.Get c) h =
    on_if (λ (w' : World). StaysAcknowledged n (topic_at s w t y) (topic_at s w' t y)) (has_client s c) _ _ (client_keeps s w t y n c _ _) (keeps n (topic_at s w t y))
event_keeps s w t y n e h = does_keep s w t y n (planned s w e) h

map_keeps : (n : List ℕ) (f : Broker → Broker) → ((b : Broker) → StaysAcknowledged n b (f b)) → (bs : List Broker) (z : ℕ) (d : Broker)
    → StaysAcknowledged n (slice_index_or bs z d) (slice_index_or (map f bs) z d)
map_keeps n f h [] z d = keeps n d
map_keeps n f h (b ∷ bs) zero d = h b
map_keeps n f h (b ∷ bs) (suc z) d = map_keeps n f h bs z d

stop_keeps : (s : Setup) (w : World) (t y : ℕ) (n : List ℕ) → StaysAcknowledged n (topic_at s w t y) (topic_at s (stops s w) t y)
unfolding stops restart
stop_keeps s w t y n = map_keeps n (λ b. done s.per_ledger b restart) (λ b. done_keeps s.per_ledger n b restart refl) w.brokers (node s t y) no_broker

-- ---- all that happens

pub since_keeps : (s : Setup) (t y : ℕ) (n : List ℕ) (v w : World) → Since s t y n v w → StaysAcknowledged n (topic_at s v t y) (topic_at s w t y)
since_keeps s t y n v _ Starting = keeps n (topic_at s v t y)
since_keeps s t y n v _ (AfterEvent w e h r) = then_keeps n (topic_at s v t y) (topic_at s w t y) _ (since_keeps s t y n v w r) (event_keeps s w t y n e h)
since_keeps s t y n v _ (AfterHalt w k e h r) = then_keeps n (topic_at s v t y) (topic_at s w t y) _ (since_keeps s t y n v w r) (halts_keep s w t y n k (planned s w e) h)
since_keeps s t y n v _ (AfterStop w r) = then_keeps n (topic_at s v t y) (topic_at s w t y) _ (since_keeps s t y n v w r) (stop_keeps s w t y n)
since_keeps s t y n v _ (Idling w k r) = since_keeps s t y n v w r
since_keeps s t y n v _ (AfterRound w k r) = since_keeps s t y n v w r
since_keeps s t y n v _ (Resuming w r) = since_keeps s t y n v w r

pub within_keeps : (s : Setup) (t y : ℕ) (n : List ℕ) (v w : World) (k : ℕ) (e : Event) → Since s t y n v w → leaves_behind k s t y n (planned s w e) ≡ true
    → StaysAcknowledged n (topic_at s v t y) (topic_at s (partly_written s w k (planned s w e)) t y)
within_keeps s t y n v w k e r h = then_keeps n (topic_at s v t y) (topic_at s w t y) _ (since_keeps s t y n v w r) (partly_keeps s w t y n k (planned s w e) h)

pub still_passed : (n : List ℕ) (b b' : Broker) (a j : ℕ) → StaysAcknowledged n b b' → HasUpdatedTo b n a j → HasUpdatedTo b' n a j
still_passed n b b' a j h p =
    let f = h.cursor p.sub p.here in let l = h.longer in let stands = p.stands in
    record {
      stands = omega (arith, stands, l);
      sub = f.sub;
      here = f.here;
      passed = λ k e le at is. f.all k (p.passed k e le (h.same k e (omega (arith, le, stands)) at) is);
    }

-- ---- what still stands of it

pub since_then : (s : Setup) (t y : ℕ) (n : List ℕ) (u v w : World) → Since s t y n u v → Since s t y n v w → Since s t y n u w
since_then s t y n u v _ h Starting = h
since_then s t y n u v _ h (AfterEvent w e left r) = AfterEvent w e left (since_then s t y n u v w h r)
since_then s t y n u v _ h (AfterHalt w k e left r) = AfterHalt w k e left (since_then s t y n u v w h r)
since_then s t y n u v _ h (AfterStop w r) = AfterStop w (since_then s t y n u v w h r)
since_then s t y n u v _ h (Idling w k r) = Idling w k (since_then s t y n u v w h r)
since_then s t y n u v _ h (AfterRound w k r) = AfterRound w k (since_then s t y n u v w h r)
since_then s t y n u v _ h (Resuming w r) = Resuming w (since_then s t y n u v w h r)

-- an entry
pub entry_stays : (n : List ℕ) (b b' : Broker) (i : ℕ) (e : Entry) → StaysAcknowledged n b b' → IsEntry b i e → IsEntry b' i e
entry_stays n b b' i e h at =
    let lt = slice_get_within b.entries i e at in let le = h.longer in
    let f = get_some_below b'.entries i (omega (arith, lt, le)) in
    f.1 ∙ sym (h.same i f.0 lt f.1) ∙ at

-- the index of a position
pub index_stays : (n : List ℕ) (b b' : Broker) (ps : List Position) (j : ℕ) → StaysAcknowledged n b b' → only_index b.ledgers ps ≡ Some j → only_index b'.ledgers ps ≡ Some j
index_stays n b b' [] j h at = absurd (none-some j at)
index_stays n b b' (p ∷ []) j h at = (h.places (some b.ledgers at)).index p j at
  where
    some : (ls : List ℕ) → index_of ls p ≡ Some j → 0 < length ls
    some [] e = absurd (none-some j e)
    some (l ∷ ls) e = omega arith
index_stays n b b' (p ∷ q ∷ ps) j h at = absurd (none-some j at)
