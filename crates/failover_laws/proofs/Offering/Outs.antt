-- What is out with a consumer is a message: nothing but an offer of one gives anything.
use Rattle.std.proofs.Common.{◌≡◌, ℕ, Bool, true, false, List, [], ◌∷◌, ◌++◌, length, map, refl, sym, ap, subst, ◌∙◌, ◌==◌}
use Rattle.std.specs.Prelude.{Option, Some, None, ◌*◌, nat_lt, filter, is_some, slice_get, take}
use Rattle.std.specs.List.{list_any}
use Rattle.std.specs.Str.{bytes_eq}
use Rattle.std.proofs.lemmas.Bool.{eq-eqb, false≢true}
use Rattle.std.proofs.lemmas.Slice.Eq.{bytes_eq-Decides}
use Rattle.world_laws.proofs.Types.{Change, Entry, Unacked, Write}
use Rattle.world_laws.proofs.Types.change
use Rattle.world_laws.proofs.Types.write
use Rattle.geo_base.specs.Broker.{Broker, changed, new_broker, no_broker, sub_named, written}
use Rattle.geo_base.specs.Client.{Acted}
use Rattle.geo_base.specs.Dispatcher.{with_out}
use Rattle.geo_base.specs.Entry.{is_data}
use Rattle.geo_base.specs.Forwarding.{closes}
use Rattle.geo_base.specs.Happening.{broker_does, broker_halts, client_does, stops}
use Rattle.geo_base.specs.Plan.{Plan, all_changed, all_written, done, halted, quiet_plan}
use Rattle.geo_base.specs.Planned.{Planned}
use Rattle.geo_base.specs.Seeking.{restart}
use Rattle.geo_base.specs.Setup.{Setup, sub_name}
use Rattle.geo_base.specs.Subscription.{Subscription}
use Rattle.geo_base.specs.World.{LinkName, ToClient, World, broker_at, node, site, topic_at}
use Rattle.world_laws.proofs.Dispatching.Remembers.{first_false, second_false}
use Rattle.world_laws.proofs.Dispatching.SubFrames.{AllSubs, at_name, forgotten_subs, sub_changed}
use Rattle.world_laws.proofs.Induction.Frames.{at_copies, at_map, at_set}
use Rattle.world_laws.proofs.Induction.Runs.{IsKept}
use Rattle.world_laws.proofs.OnceInOrder.Members.{get_left}
use Rattle.world_laws.proofs.Replicating.Effects.{Each, each_both, each_map}
use Rattle.world_laws.proofs.Walks.Shapes.{Answered, Offers, Shape, Taken}
use Rattle.world_laws.proofs.Walks.Walk.{both, on_if}
use Rattle.failover_laws.specs.Again.{is_given}
use Rattle.failover_laws.proofs.Ending.Became.{done_entries}
use Rattle.failover_laws.proofs.Given.{answered_gives, fated_gives, reads_gives, restart_gives, seeks_gives, served_gives, snaps_gives, taken_gives}

-- a message stands at an index
abbrev pub MessageAt : List Entry → ℕ → Type 0
MessageAt es i = (e : Entry) × (slice_get es i ≡ Some e) × (is_data e.content ≡ true)

abbrev pub OutIn : List Entry → Subscription → Type 0
OutIn es v = Each (λ (o : Unacked). MessageAt es o.index) v.out

message_grows : (es more : List Entry) (i : ℕ) → MessageAt es i → MessageAt (es ++ more) i
message_grows es more i m = (m.0, get_left es more i m.0 m.1, m.2)

out_grows : (es more : List Entry) (v : Subscription) → OutIn es v → OutIn (es ++ more) v
out_grows es more v h = each_map (λ (o : Unacked). MessageAt es o.index) (λ (o : Unacked). MessageAt (es ++ more) o.index) (λ o m. message_grows es more o.index m) v.out h

-- ---- changes

each_left : {X : Type 0} (P : X → Type 0) (f : X → Bool) (xs : List X) → Each P xs → Each P (filter f xs)
each_left P f [] h = tt
each_left P f (x ∷ xs) h = on_if (Each P) (f x) (x ∷ filter f xs) (filter f xs) (h.0, each_left P f xs h.1) (each_left P f xs h.1)

each_with : (P : Unacked → Type 0) (xs : List Unacked) (o : Unacked) → P o → Each P xs → Each P (with_out xs o)
each_with P [] o p h = (p, tt)
each_with P (x ∷ xs) o p h =
    on_if (Each P) (nat_lt o.index x.index) _ _ (p, h) (on_if (Each P) (x.index == o.index) _ _ (p, h.1) (h.0, each_with P xs o p h.1))

abbrev GivesMessage : List Entry → Change → Type 0
GivesMessage es (change.Given n i at) = MessageAt es i
GivesMessage es c = Unit {0}

change_out : (es : List Entry) (c : Change) (v : Subscription) → GivesMessage es c → OutIn es v → OutIn es (sub_changed v c)
change_out es (change.Attach n k) v g h = on_if (OutIn es) (bytes_eq v.name n) _ _ h h
change_out es (change.Detach c) v g h = each_left (λ (o : Unacked). MessageAt es o.index) _ v.out h
change_out es (change.Permit n c k) v g h = on_if (OutIn es) (bytes_eq v.name n) _ _ h h
change_out es (change.Skipped n i) v g h = on_if (OutIn es) (bytes_eq v.name n) _ _ h h
change_out es (change.Given n i at) v g h = on_if (OutIn es) (bytes_eq v.name n) _ _ (each_with (λ (o : Unacked). MessageAt es o.index) v.out _ g h) h
change_out es (change.Cache n c) v g h = on_if (OutIn es) (bytes_eq v.name n) _ _ h h
change_out es (change.Acked n) v g h = on_if (OutIn es) (bytes_eq v.name n) _ _ (each_left (λ (o : Unacked). MessageAt es o.index) _ v.out h) h
change_out es (change.Cleared n) v g h = on_if (OutIn es) (bytes_eq v.name n) _ _ tt h
change_out es change.Forget v g h = tt
change_out es (change.Receiver x r) v g h = h
change_out es (change.Client c r) v g h = h
change_out es (change.Opening y) v g h = h
change_out es (change.Opened y) v g h = h
change_out es (change.Pend y i) v g h = h
change_out es (change.ReadTo y i) v g h = h
change_out es (change.Unpend y n) v g h = h
change_out es (change.Building o) v g h = h

-- over all subscriptions
map_out : (es : List Entry) (f : Subscription → Subscription) → ((v : Subscription) → OutIn es v → OutIn es (f v)) → (vs : List Subscription) → Each (OutIn es) vs → Each (OutIn es) (map f vs)
map_out es f k [] h = tt
map_out es f k (v ∷ vs) h = (k v h.0, map_out es f k vs h.1)

changed_out : (es : List Entry) (b : Broker) (c : Change) → GivesMessage es c → AllSubs (OutIn es) b → AllSubs (OutIn es) (changed b c)
changed_out es b (change.Attach n k) g h = map_out es _ (λ v. change_out es (change.Attach n k) v g) b.subs h
changed_out es b (change.Detach c) g h = map_out es _ (λ v. change_out es (change.Detach c) v g) b.subs h
changed_out es b (change.Permit n c k) g h = map_out es _ (λ v. change_out es (change.Permit n c k) v g) b.subs h
changed_out es b (change.Skipped n i) g h = map_out es _ (λ v. change_out es (change.Skipped n i) v g) b.subs h
changed_out es b (change.Given n i at) g h = map_out es _ (λ v. change_out es (change.Given n i at) v g) b.subs h
changed_out es b (change.Cache n c) g h = map_out es _ (λ v. change_out es (change.Cache n c) v g) b.subs h
changed_out es b (change.Acked n) g h = map_out es _ (λ v. change_out es (change.Acked n) v g) b.subs h
changed_out es b (change.Cleared n) g h = map_out es _ (λ v. change_out es (change.Cleared n) v g) b.subs h
changed_out es b change.Forget g h = map_out es _ (λ v. change_out es change.Forget v g) b.subs h
changed_out es b (change.Receiver x r) g h = h
changed_out es b (change.Client c r) g h = h
changed_out es b (change.Opening y) g h = h
changed_out es b (change.Opened y) g h = h
changed_out es b (change.Pend y i) g h = h
changed_out es b (change.ReadTo y i) g h = h
changed_out es b (change.Unpend y n) g h = h
changed_out es b (change.Building o) g h = h

changes_out : (es : List Entry) (b : Broker) (cs : List Change) → Each (GivesMessage es) cs → AllSubs (OutIn es) b → AllSubs (OutIn es) (all_changed b cs)
changes_out es b [] g h = h
changes_out es b (c ∷ cs) g h = changes_out es (changed b c) cs g.1 (changed_out es b c g.0 h)

-- ---- writes

same_out : (es : List Entry) (n : List ℕ) (f : Subscription → Subscription) → ((v : Subscription) → (f v).out ≡ v.out) → (v : Subscription) → OutIn es v → OutIn es (at_name n f v)
same_out es n f same v h = on_if (OutIn es) (bytes_eq v.name n) (f v) v (subst (Each (λ (o : Unacked). MessageAt es o.index)) (sym (same v)) h) h

write_out : (es : List Entry) (per : ℕ) (b : Broker) (w : Write) → AllSubs (OutIn es) b → AllSubs (OutIn es) (written per b w)
write_out es per b (write.Create n kind replicated latest) h =
    on_if (AllSubs (OutIn es)) (is_some (sub_named b.subs n)) b _ h (each_both (OutIn es) b.subs _ h (tt, tt))
write_out es per b (write.Alter n kind replicated) h = map_out es _ (same_out es n _ (λ v. refl)) b.subs h
write_out es per b (write.Delete n) h = each_left (OutIn es) _ b.subs h
write_out es per b (write.Acks n is) h = map_out es _ (same_out es n _ (λ v. refl)) b.subs h
write_out es per b (write.Seek n i) h = map_out es _ (same_out es n _ (λ v. refl)) b.subs h
write_out es per b (write.Append e) h = h
write_out es per b (write.ReplicatorAck y i) h = h
write_out es per b (write.SessionNumber y n) h = h
write_out es per b write.Ledger h = h

writes_out : (es : List Entry) (per : ℕ) (b : Broker) (ws : List Write) → AllSubs (OutIn es) b → AllSubs (OutIn es) (all_written per b ws)
writes_out es per b [] h = h
writes_out es per b (w ∷ ws) h = writes_out es per (written per b w) ws (write_out es per b w h)

-- ---- plans

none_given : (es : List Entry) (cs : List Change) → ((m : List ℕ) (k : ℕ) → list_any (is_given m k) cs ≡ false) → Each (GivesMessage es) cs
none_given es [] h = tt
none_given es (c ∷ cs) h = (first c (λ m k. first_false (is_given m k c) (list_any (is_given m k) cs) (h m k)), none_given es cs (λ m k. second_false (is_given m k c) (list_any (is_given m k) cs) (h m k)))
  where
    first : (c : Change) → ((m : List ℕ) (k : ℕ) → is_given m k c ≡ false) → GivesMessage es c
    first (change.Given n i at) none = absurd (false≢true (sym (none n i) ∙ both (bytes_eq n n) (i == i) ((bytes_eq-Decides n n).1 refl) (eq-eqb i i refl)))
    first (change.Attach n k) none = tt
    first (change.Detach c) none = tt
    first (change.Permit n c k) none = tt
    first (change.Skipped n i) none = tt
    first (change.Cache n c) none = tt
    first (change.Acked n) none = tt
    first (change.Cleared n) none = tt
    first change.Forget none = tt
    first (change.Receiver x r) none = tt
    first (change.Client c r) none = tt
    first (change.Opening y) none = tt
    first (change.Opened y) none = tt
    first (change.Pend y i) none = tt
    first (change.ReadTo y i) none = tt
    first (change.Unpend y n) none = tt
    first (change.Building o) none = tt

shape_out : (s : Setup) (w : World) (p : Planned) → Shape s w p → Each (GivesMessage (topic_at s w p.topic p.cluster).entries) p.plan.changes
shape_out s w p (Shape.Offer t x n plan within offers) = by plan offers
  where
    by : (q : Plan) → Offers (site s t x) (topic_at s w t x) (sub_name s t n) q → Each (GivesMessage (topic_at s w t x).entries) q.changes
    by q Offers.NothingToOffer = tt
    by q (Offers.SkipsMarker v i e ws due is after) = (tt, (tt, tt))
    by q (Offers.Caches v i j e c ws due is after) = (tt, (tt, (tt, tt)))
    by q (Offers.Gives v i at e due is picked) = ((e, due.2, ap is_data is), tt)
shape_out s w p (Shape.Idle t x within) = tt
shape_out s w p (Shape.Empty t x l within next) = tt
shape_out s w p (Shape.Serve x c q plan within next served) = none_given _ plan.changes (λ m k. served_gives m k _ _ c q plan served)
shape_out s w p (Shape.Drop x c v within at) = (tt, (tt, tt))
shape_out s w p (Shape.Reset t x y within remote) = (tt, tt)
shape_out s w p (Shape.Read t x y plan within reads) = none_given _ plan.changes (λ m k. reads_gives m k _ _ y plan reads)
shape_out s w p (Shape.Take t x y q plan within next taken) =
    none_given _ plan.changes (λ m k. fated_gives m k s.per_ledger _ (λ b. Taken (site s t y) b x q) (closes x) plan (λ b p taken. taken_gives m k (site s t y) b x q p taken) refl taken)
shape_out s w p (Shape.Receipt t x y q plan within next answered) =
    none_given _ plan.changes (λ m k. fated_gives m k s.per_ledger _ (λ b. Answered b y q) (quiet_plan []) plan (λ b p answered. answered_gives m k b y q p answered) refl answered)
shape_out s w p (Shape.Snap t x plan within snaps) = none_given _ plan.changes (λ m k. snaps_gives m k _ _ plan snaps)
shape_out s w p (Shape.Seek t x n to plan within seeks) = none_given _ plan.changes (λ m k. seeks_gives m k _ _ _ to plan seeks)
shape_out s w p (Shape.Restart t x within) = none_given _ _ (λ m k. restart_gives m k)

-- ---- worlds

abbrev pub OutMessages : Broker → Type 0
OutMessages b = AllSubs (OutIn b.entries) b

abbrev pub AllOut : World → Type 0
AllOut w = (z : ℕ) → OutMessages (broker_at w z)

done_out : (per : ℕ) (b : Broker) (p : Plan) → Each (GivesMessage b.entries) p.changes → OutMessages b → OutMessages (done per b p)
done_out per b p g h =
    let all = changes_out b.entries (all_written per b p.writes) p.changes g (writes_out b.entries per b p.writes h) in
    subst (λ (es : List Entry). AllSubs (OutIn es) (done per b p)) (sym (done_entries per b p)) (each_map (OutIn b.entries) _ (λ v o. out_grows b.entries _ v o) (done per b p).subs all)

forgotten_out : (per : ℕ) (b : Broker) (k : ℕ) (p : Plan) → OutMessages (halted per b k p)
forgotten_out per b k p = forgotten_subs (OutIn (halted per b k p).entries) (all_written per b (take k p.writes ++ write.Ledger ∷ [])) (λ v. tt)

none_out : OutMessages no_broker
none_out = tt

out_does : (s : Setup) (w : World) (p : Planned) → Shape s w p → AllOut w → AllOut (broker_does s w p)
unfolding broker_does
out_does s w p shape all z =
    on_if (λ (w' : World). OutMessages (broker_at w' z)) p.plan.idle _ _ (all z)
    (at_set OutMessages w.brokers (node s p.topic p.cluster) z _ no_broker
    (λ _. done_out s.per_ledger (topic_at s w p.topic p.cluster) p.plan (shape_out s w p shape) (all (node s p.topic p.cluster))) (all z))

out_halts : (s : Setup) (w : World) (k : ℕ) (p : Planned) → AllOut w → AllOut (broker_halts s w k p)
unfolding broker_halts
out_halts s w k p all z = at_set OutMessages w.brokers (node s p.topic p.cluster) z _ no_broker (λ _. forgotten_out s.per_ledger (topic_at s w p.topic p.cluster) k p.plan) (all z)

out_client : (s : Setup) (w : World) (c : ℕ) (k : Option LinkName) (a : Acted) → AllOut w → AllOut (client_does s w c k a)
unfolding client_does
out_client s w c k a all z = on_if (λ (w' : World). OutMessages (broker_at w' z)) a.idle _ _ (all z) (all z)

restarted_out : (per : ℕ) (b : Broker) → OutMessages b → OutMessages (done per b restart)
unfolding restart
restarted_out per b h = forgotten_subs (OutIn b.entries) (all_written per b (write.Ledger ∷ [])) (λ v. tt)

out_stops : (s : Setup) (w : World) → AllOut w → AllOut (stops s w)
unfolding stops
out_stops s w all z = at_map OutMessages (λ b. done s.per_ledger b restart) (λ b h. restarted_out s.per_ledger b h) w.brokers z no_broker none_out (all z)

pub out_kept : (s : Setup) → IsKept s AllOut
out_kept s = record {
  opening = λ z. at_copies OutMessages (length s.topics * length s.clusters) z (new_broker (length s.clusters) (length s.clients)) no_broker tt none_out;
  idle = λ w n all. all;
  round = λ w n all. all;
  does = out_does s;
  halts = λ w k p shape all. out_halts s w k p all;
  goes = λ w c a all. out_client s w c None a all;
  gets = λ w c x a all. out_client s w c (Some (ToClient c x)) a all;
  stop = out_stops s;
}
