-- The backlogs that are known of all brokers after an event.
use Rattle.std.proofs.Common.{◌≡◌, ℕ, ◌+◌, ◌<◌, Bool, true, false, List, [], ◌∷◌, inl, inr, length, map, refl, sym, ◌∙◌, ap, subst}
use Rattle.std.proofs.lemmas.Bool.{cases_eq, false≢true}
use Rattle.std.proofs.Math.ListN.{get_or-map}
use Rattle.std.proofs.lemmas.List.{get_or-set_same, length-map}
use Rattle.std.specs.Prelude.{Err, Ok, OnOk, Option, Result, slice_index_or, slice_set}
use Rattle.broker.proofs.Ready.{idle_is}
use Rattle.broker.specs.Node.{BrokerView}
use Rattle.broker_state.specs.Plan.{PlanView}
use Rattle.geo_base.specs.declared.entry.Entry.{Entry}
use Rattle.geo_base.specs.declared.event.Event.{Event}
use Rattle.geo_base.specs.declared.event.Event.TheVariants as event
use Rattle.geo_base.specs.declared.memory.Memory.{Memory}
use Rattle.geo_base.specs.Broker.{Broker, backlog, no_broker}
use Rattle.geo_base.specs.Cursor.{backlog_from}
use Rattle.geo_base.specs.Entry.{is_data}
use Rattle.geo_base.specs.Client.{Acted}
use Rattle.geo_base.specs.Happening.{broker_does, broker_halts, client_does, halts_planned, happens}
use Rattle.geo_base.specs.Plan.{Plan, all_written, done, halted}
use Rattle.geo_base.specs.Planned.{Planned, has_client, planned}
use Rattle.geo_base.specs.Setup.{Setup}
use Rattle.geo_base.specs.Subscription.{Subscription, cleared}
use Rattle.geo_base.specs.World.{LinkName, World, broker_at, node}
use Rattle.script_text.specs.Scenario.{IsEvent}
use Rattle.step_lines.specs.Backlogs.{AreBacklogs, KnownBacklogs, MayFollow, SameOthers, TellsBacklogs, backlogs_of, known_at, wrote}
use Rattle.step_lines.specs.Resting.{Rests}
use Rattle.step_lines.specs.Telling.{IsClients}
use Rattle.step_lines.proofs.Resting.{changes_rest, done_after}
use Rattle.world.proofs.Places.{in_range_is, node_below, stands_at}
use Rattle.world.specs.declared.fault.RunFault.{RunFault}
use Rattle.world.specs.declared.broker_ref.BrokerRef.{BrokerRef}
use Rattle.world.specs.Foreseen.{IsForeseen}
use Rattle.world.specs.Steps.{IsBrokerOf}
use Rattle.world.specs.World.{IsAt, SameWorld, WorldView, kept_of, no_node, node_at}
use Rattle.kept_laws.proofs.Keeping.{done_is, event_plan, planned_is}
use Rattle.kept_laws.specs.Events.{IsBrokers, node_of, plan_in, topic_of}
use Rattle.kept_laws.specs.Kept.{Kept}
use Rattle.kept_laws.specs.Standing.{Stands}
use Rattle.world_laws.proofs.Induction.Frames.{at_set}
use Rattle.world_laws.proofs.OnceInOrder.Appends.{all_changed_entries}
use Rattle.world_laws.proofs.Walks.Walk.{on_if}

-- ---- the same entries and the same durable parts: the same backlogs

of_cleared : (b : Broker) (vs : List Subscription) → map (backlog b) vs ≡ map (backlog b) (map cleared vs)
of_cleared b [] = refl
of_cleared b (v ∷ vs) = ap (λ (ns : List ℕ). backlog b v ∷ ns) (of_cleared b vs)

pub same_backlogs : (b a : Broker) → a.entries ≡ b.entries → map cleared a.subs ≡ map cleared b.subs → backlogs_of a ≡ backlogs_of b
same_backlogs b a entries subs =
    of_cleared a a.subs
    ∙ (ap (λ (vs : List Subscription). map (backlog a) vs) subs
    ∙ (ap (λ (es : List Entry). map (λ (v : Subscription). backlog_from v.cursor 0 (map (λ (e : Entry). is_data e.content) es)) (map cleared b.subs)) entries
    ∙ sym (of_cleared b b.subs)))

-- what changes in memory changes none
changes_keep : (per : ℕ) (b : Broker) (q : Plan) → backlogs_of (done per b q) ≡ backlogs_of (all_written per b q.writes)
changes_keep per b q = same_backlogs (all_written per b q.writes) (done per b q) (all_changed_entries (all_written per b q.writes) q.changes) (changes_rest (all_written per b q.writes) q.changes)

-- ---- all rows, where one broker is another

rows_set : (bs : List Broker) (n : ℕ) (a : Broker) (ks ks' : List KnownBacklogs) → n < length bs → TellsBacklogs (known_at ks' n) a → SameOthers n ks ks' → AreBacklogs ks bs
    → AreBacklogs ks' (slice_set bs n a)
rows_set bs n a ks ks' there tells others h = record { at = at }
  where
    P : ℕ → Broker → Type 0
    P k c = TellsBacklogs (known_at ks' k) c

    at : (k : ℕ) → P k (slice_index_or (slice_set bs n a) k no_broker)
    at k = elim (cases_eq k n) [
      | inl is ↦ subst (λ (j : ℕ). P j (slice_index_or (slice_set bs n a) j no_broker)) (sym is) (subst (λ (c : Broker). P n c) (sym (get_or-set_same bs n a no_broker there)) tells)
      | inr other ↦ at_set (P k) bs n k a no_broker (λ is. absurd (other (sym is))) (subst (λ (r : KnownBacklogs). TellsBacklogs r (slice_index_or bs k no_broker)) (sym (others k other)) (h.at k))
    ]

does_brokers : (s : Setup) (w : World) (p : Planned) → p.plan.idle ≡ false
    → (broker_does s w p).brokers ≡ slice_set w.brokers (node s p.topic p.cluster) (done s.per_ledger (broker_at w (node s p.topic p.cluster)) p.plan)
unfolding broker_does
does_brokers s w p busy = rw busy refl

-- ---- the row of the event's broker

tells_after : (r : Bool) (n per : ℕ) (b : Broker) (p : PlanView) (q : Plan) (ks ks' : List KnownBacklogs) → all_written per b q.writes ≡ wrote per b p → (r ≡ true → Rests b (done per b q))
    → MayFollow r n per b p ks ks' → TellsBacklogs (known_at ks n) b → TellsBacklogs (known_at ks' n) (done per b q)
tells_after true n per b p q ks ks' is rests same h =
    let rested = rests refl in
    subst (λ (js : List KnownBacklogs). TellsBacklogs (known_at js n) (done per b q)) (sym same)
    (record { known = λ known. h.known known ∙ sym (same_backlogs b (done per b q) rested.entries rested.subs) })
tells_after false n per b p q ks ks' is rests follows h =
    record { known = λ known. follows.0.known known ∙ (ap backlogs_of (sym is) ∙ sym (changes_keep per b q)) }

others_after : (r : Bool) (n per : ℕ) (b : Broker) (p : PlanView) (ks ks' : List KnownBacklogs) → MayFollow r n per b p ks ks' → SameOthers n ks ks'
others_after true n per b p ks ks' same k other = ap (λ (js : List KnownBacklogs). known_at js k) same
others_after false n per b p ks ks' follows k other = follows.1 k other

-- ---- all rows after an event

pub event_known : (s : Setup) (w : World) (old new : WorldView) (e : Event) (p : PlanView) (r : Bool) (ks ks' : List KnownBacklogs) → IsBrokers e → IsEvent s e → IsAt s old → IsAt s new
    → Stands s (kept_of old) w → Stands s (kept_of new) (happens s w e) → IsForeseen s w e (node_at old.brokers (node_of s e)) p → p.idle ≡ false
    → (r ≡ true → Rests (node_at old.brokers (node_of s e)).broker (node_at new.brokers (node_of s e)).broker)
    → ((per : ℕ) → MayFollow r (node_of s e) per (node_at old.brokers (node_of s e)).broker p ks ks') → AreBacklogs ks (kept_of old).brokers → AreBacklogs ks' (kept_of new).brokers
event_known s w old new e p r ks ks' brokers here at at' stands stands' f busy rests follows h =
    let n = node_of s e in let v : BrokerView = node_at old.brokers n in let q = plan_in s w e in let per = s.per_ledger in
    let low = node_below s old e at brokers here in
    let before : v.broker ≡ broker_at w n = stands_at s old w n stands low in
    let there : n < length w.brokers =
    subst (λ (m : ℕ). n < m) (sym (length-map old.brokers (λ (u : BrokerView). u.broker)) ∙ ap (λ (bs : List Broker). length bs) stands.brokers) low in
    let idle : q.idle ≡ false = sym (idle_is v.site v.broker q p f.prepared) ∙ busy in
    let was : AreBacklogs ks w.brokers = subst (λ (bs : List Broker). AreBacklogs ks bs) stands.brokers h in
    let known : TellsBacklogs (known_at ks n) v.broker = subst (λ (c : Broker). TellsBacklogs (known_at ks n) c) (sym before) (was.at n) in
    let wrote_so : all_written per v.broker q.writes ≡ wrote per v.broker p = ap (all_written per v.broker) (sym (ap (λ (u : Plan). u.writes) f.prepared.steps)) in
    let is = done_after s w old new e p brokers here at at' stands stands' f busy in
    let tells = tells_after r n per v.broker p q ks ks' wrote_so (λ rested. subst (λ (c : Broker). Rests v.broker c) is (rests rested)) (follows per) known in
    let set : AreBacklogs ks' (slice_set w.brokers n (done per v.broker q)) = rows_set w.brokers n (done per v.broker q) ks ks' there tells (others_after r n per v.broker p ks ks' (follows per)) was in
    let brokers_are : slice_set w.brokers n (done per v.broker q) ≡ (kept_of new).brokers =
    ap (λ (c : Broker). slice_set w.brokers n (done per c q)) before
    ∙ (sym (does_brokers s w (event_plan s w e) idle)
    ∙ (ap (λ (u : World). u.brokers) (sym (done_is s w e brokers (in_range_is s e here))) ∙ sym stands'.brokers)) in
    subst (λ (bs : List Broker). AreBacklogs ks' bs) brokers_are set

-- ---- rows of which nothing is known

forgotten : (k : KnownBacklogs) (b : Broker) → k.is_known ≡ false → TellsBacklogs k b
forgotten k b not = record { known = λ is. absurd (false≢true (sym not ∙ is)) }

pub none_known : (bs : List Broker) → AreBacklogs [] bs
none_known bs = record { at = λ k. forgotten (known_at [] k) (slice_index_or bs k no_broker) refl }

-- an observer that has seen nothing
pub begins_known : (ks : List KnownBacklogs) (bs : List Broker) → ks ≡ [] → AreBacklogs ks bs
begins_known ks bs none = subst (λ (js : List KnownBacklogs). AreBacklogs js bs) (sym none) (none_known bs)

halts_brokers : (s : Setup) (w : World) (k : ℕ) (p : Planned)
    → (broker_halts s w k p).brokers ≡ slice_set w.brokers (node s p.topic p.cluster) (halted s.per_ledger (broker_at w (node s p.topic p.cluster)) k p.plan)
unfolding broker_halts
halts_brokers s w k p = refl

-- after a stop of a broker, of which nothing is known any more
pub halt_known : (s : Setup) (w : World) (old new : WorldView) (k : ℕ) (e : Event) (ks ks' : List KnownBacklogs) → IsBrokers e → IsEvent s e → IsAt s old → Stands s (kept_of old) w
    → Stands s (kept_of new) (halts_planned s w k (planned s w e)) → (known_at ks' (node_of s e)).is_known ≡ false → SameOthers (node_of s e) ks ks' → AreBacklogs ks (kept_of old).brokers
    → AreBacklogs ks' (kept_of new).brokers
halt_known s w old new k e ks ks' brokers here at stands stands' not others h =
    let n = node_of s e in let a = halted s.per_ledger (broker_at w n) k (plan_in s w e) in
    let there : n < length w.brokers =
    subst (λ (m : ℕ). n < m) (sym (length-map old.brokers (λ (u : BrokerView). u.broker)) ∙ ap (λ (bs : List Broker). length bs) stands.brokers) (node_below s old e at brokers here) in
    let was : AreBacklogs ks w.brokers = subst (λ (bs : List Broker). AreBacklogs ks bs) stands.brokers h in
    let brokers_are : slice_set w.brokers n a ≡ (kept_of new).brokers =
    sym (halts_brokers s w k (event_plan s w e))
    ∙ (ap (λ (o : Option Planned). (halts_planned s w k o).brokers) (sym (planned_is s w e brokers (in_range_is s e here))) ∙ sym stands'.brokers) in
    subst (λ (bs : List Broker). AreBacklogs ks' bs) brokers_are (rows_set w.brokers n a ks ks' there (forgotten (known_at ks' n) a not) others was)

-- ---- where no broker is another

pub same_known : (ks : List KnownBacklogs) (old mid : WorldView) → SameWorld old mid → AreBacklogs ks (kept_of old).brokers → AreBacklogs ks (kept_of mid).brokers
same_known ks old mid same h = subst (λ (c : Kept). AreBacklogs ks c.brokers) (sym same.kept) h

pub idled_known : (ks : List KnownBacklogs) (mid new : WorldView) (r : Result (Unit {0}) RunFault) → OnOk r (new ≡ record mid { idle = mid.idle + 1 }) → AreBacklogs ks (kept_of mid).brokers
    → OnOk r (AreBacklogs ks (kept_of new).brokers)
idled_known ks mid new (Ok u) is h = rw is h
idled_known ks mid new (Err f) is h = tt

client_brokers : (s : Setup) (w : World) (c : ℕ) (takes : Option LinkName) (a : Acted) → (client_does s w c takes a).brokers ≡ w.brokers
unfolding client_does
client_brokers s w c takes a = on_if (λ (v : World). v.brokers ≡ w.brokers) a.idle _ _ refl refl

clients_brokers : (s : Setup) (w : World) (c : ℕ) (e : Event) → IsClients c e → (happens s w e).brokers ≡ w.brokers
unfolding happens
clients_brokers s w c (event.Go d) h = on_if (λ (v : World). v.brokers ≡ w.brokers) (has_client s d) _ _ (client_brokers s w d _ _) refl
clients_brokers s w c (event.Get d) h = on_if (λ (v : World). v.brokers ≡ w.brokers) (has_client s d) _ _ (client_brokers s w d _ _) refl
clients_brokers s w c (event.Reconnect d) h = on_if (λ (v : World). v.brokers ≡ w.brokers) (has_client s d) _ _ (client_brokers s w d _ _) refl
clients_brokers s w c (event.Serve x d) h = absurd h
clients_brokers s w c (event.Drop x d) h = absurd h
clients_brokers s w c (event.Reset t x y) h = absurd h
clients_brokers s w c (event.Read t x y) h = absurd h
clients_brokers s w c (event.Take t x y f) h = absurd h
clients_brokers s w c (event.Receipt t x y f) h = absurd h
clients_brokers s w c (event.Snap t x) h = absurd h
clients_brokers s w c (event.Offer t x n) h = absurd h
clients_brokers s w c (event.Seek t x n to) h = absurd h
clients_brokers s w c (event.Restart t x) h = absurd h

pub client_known : (s : Setup) (w : World) (old new : WorldView) (c : ℕ) (e : Event) (ks : List KnownBacklogs) → IsClients c e → Stands s (kept_of old) w → Stands s (kept_of new) (happens s w e)
    → AreBacklogs ks (kept_of old).brokers → AreBacklogs ks (kept_of new).brokers
client_known s w old new c e ks clients stands stands' h =
    subst (λ (bs : List Broker). AreBacklogs ks bs) (stands.brokers ∙ (sym (clients_brokers s w c e clients) ∙ sym stands'.brokers)) h

-- ---- the row of a broker

pub tells_there : (b : WorldView) (n : ℕ) (u : BrokerView) (ks : List KnownBacklogs) → u ≡ node_at b.brokers n → AreBacklogs ks (kept_of b).brokers → TellsBacklogs (known_at ks n) u.broker
tells_there b n u ks is h =
    subst (λ (c : Broker). TellsBacklogs (known_at ks n) c) (get_or-map (λ (v : BrokerView). v.broker) b.brokers n no_node ∙ ap (λ (v : BrokerView). v.broker) (sym is)) (h.at n)

-- and where it was asked
pub asked_known : (b : WorldView) (n : ℕ) (u : BrokerView) (ks ks' : List KnownBacklogs) → u ≡ node_at b.brokers n → known_at ks' n ≡ record { is_known = true; counts = backlogs_of u.broker } → SameOthers n ks ks'
    → AreBacklogs ks (kept_of b).brokers → AreBacklogs ks' (kept_of b).brokers
asked_known b n u ks ks' is known others h = record { at = at }
  where
    bs : List Broker
    bs = (kept_of b).brokers

    there : u.broker ≡ slice_index_or bs n no_broker
    there = ap (λ (v : BrokerView). v.broker) is ∙ sym (get_or-map (λ (v : BrokerView). v.broker) b.brokers n no_node)

    here : TellsBacklogs (known_at ks' n) (slice_index_or bs n no_broker)
    here = record { known = λ t. ap (λ (r : KnownBacklogs). r.counts) known ∙ ap backlogs_of there }

    at : (k : ℕ) → TellsBacklogs (known_at ks' k) (slice_index_or bs k no_broker)
    at k = elim (cases_eq k n) [
      | inl same ↦ subst (λ (j : ℕ). TellsBacklogs (known_at ks' j) (slice_index_or bs j no_broker)) (sym same) here
      | inr other ↦ subst (λ (r : KnownBacklogs). TellsBacklogs r (slice_index_or bs k no_broker)) (sym (others k other)) (h.at k)
    ]

pub number_there : (s : Setup) (e : Event) (place : BrokerRef) (n : ℕ) → IsBrokerOf s e place → n ≡ node s place.topic place.cluster → n ≡ node_of s e
number_there s e place n at is = is ∙ ap (λ (t : ℕ). node s t place.cluster) at.topic ∙ ap (λ (x : ℕ). node s (topic_of s e) x) at.cluster

-- where an event was not to rest, it does not
pub never_rests : (r : Bool) → (r ≡ true → false ≡ true) → r ≡ false
never_rests true may = absurd (false≢true (may refl))
never_rests false may = refl

-- the row after an event that rests, and after another one, which was counted
pub rests_there : (r : Bool) (n per : ℕ) (b : Broker) (p : PlanView) (ks : List KnownBacklogs) → r ≡ true → MayFollow r n per b p ks ks
rests_there true n per b p ks is = refl
rests_there false n per b p ks is = absurd (false≢true is)

pub follows_there : (s : Setup) (e : Event) (brokers : List BrokerView) (u : BrokerView) (r : Bool) (number per : ℕ) (p : PlanView) (ks ks' : List KnownBacklogs) (o : Result (Unit {0}) Memory) → r ≡ false
    → number ≡ node_of s e → u ≡ node_at brokers (node_of s e) → OnOk o (TellsBacklogs (known_at ks' number) (wrote per u.broker p)) → SameOthers number ks ks'
    → OnOk o (MayFollow r (node_of s e) per (node_at brokers (node_of s e)).broker p ks ks')
follows_there s e brokers u r number per p ks ks' (Err f) not there is tells others = tt
follows_there s e brokers u r number per p ks ks' (Ok unit) not there is tells others =
    let n = node_of s e in let b = (node_at brokers n).broker in
    let told : TellsBacklogs (known_at ks' n) (wrote per b p) =
    subst (λ (z : BrokerView). TellsBacklogs (known_at ks' n) (wrote per z.broker p)) is (subst (λ (m : ℕ). TellsBacklogs (known_at ks' m) (wrote per u.broker p)) there tells) in
    subst (λ (t : Bool). MayFollow t n per b p ks ks') (sym not) (told, subst (λ (m : ℕ). SameOthers m ks ks') there others)
