-- Runs: what is told of their steps, read by who kept the world where they begin, gives the world where they end.
use Rattle.std.proofs.Common.{◌≡◌, ℕ, zero, suc, ◌+◌, ◌*◌, ◌<◌, ◌≤◌, Bool, true, false, List, [], ◌∷◌, ◌++◌, length, map, drop, take, not, refl, sym, ap, subst, ◌∙◌, ◌==◌, arith}
use Rattle.std.specs.Prelude.{◌&&◌, ◌||◌, Option, Some, None, if◌then◌else◌, is_some, slice_index_or, slice_set}
use Rattle.std.proofs.lemmas.Bool.{eq-eqb, eqb-true}
use Rattle.std.proofs.lemmas.List.{get_or-map, get_or-set_same, length-map, length-set, set-get_or}
use Rattle.world_laws.proofs.Types.{Event, Step}
use Rattle.world_laws.proofs.Types.event
use Rattle.world_laws.proofs.Types.step
use Rattle.geo_base.specs.Broker.{Broker, no_broker}
use Rattle.geo_base.specs.Client.{Client, unconnected}
use Rattle.geo_base.specs.Happening.{broker_does, broker_halts, client_does, does_planned, halts_planned, happens, stops}
use Rattle.geo_base.specs.Nodes.{BrokerNode, ClientNode, Node, node_of}
use Rattle.geo_base.specs.Plan.{done, halted}
use Rattle.geo_base.specs.Planned.{Planned, has_client, planned}
use Rattle.geo_base.specs.Run.{Limits, Ran, all_settle, budget, counting_round, ends_or, goes_on, pairs, resets_of, round_of, rounds_of, run_from, settled_world, settles, steps}
use Rattle.geo_base.specs.Seeking.{restart}
use Rattle.geo_base.specs.Setup.{Setup, declared_at}
use Rattle.geo_base.specs.World.{World, broker_at, node, topic_at}
use Rattle.world_laws.proofs.Replicating.Effects.{Each}
use Rattle.world_laws.proofs.Snapshotting.Grows.{unchanged}
use Rattle.world_laws.proofs.Walks.Walk.{on_elim, on_if}
use Rattle.step_laws.specs.Steps.{Changed, Did, ToldEvent, WasIdle, broker_changes, changed_at, changed_from, changed_in, did_or_idle, rounds_told, settle_told, settling_told, step_told, told_from, told_settling, unless_none}
use Rattle.step_laws.specs.StepsFold.{Kept, KeptClient, kept_brokers, kept_client, kept_clients, kept_of, reads_at, reads_changed, reads_events, reads_step, reads_steps}
use Rattle.step_laws.proofs.Events.{Begun, Tells, broker_told, each_at, each_set, event_told, halted_told}
use Rattle.step_laws.proofs.Naming.{Renamed, follows, names}
use Rattle.step_laws.proofs.Nodes.{GoesOn, Sound, done_goes, done_sound, halted_sound}

-- ---- what a run keeps

abbrev all_sound : Setup → Broker → Type 0
all_sound s b = Sound (length s.clusters) b

set_begun : (s : Setup) (w : World) (n : ℕ) (a : Broker) → Begun s w → (all_sound s (broker_at w n) → all_sound s a) → Begun s (record w { brokers = slice_set w.brokers n a })
set_begun s w n a h sound = record {
  brokers = length-set w.brokers n a ∙ h.brokers;
  clients = h.clients;
  each = each_set (all_sound s) w.brokers n a h.each (λ lt. sound (each_at (all_sound s) w.brokers n no_broker h.each lt));
}

-- a fact of brokers and clients alone
like : (s : Setup) (v w : World) → v.brokers ≡ w.brokers → v.clients ≡ w.clients → Begun s w → Begun s v
like s v w brokers clients h = record {
  brokers = ap length brokers ∙ h.brokers;
  clients = ap length clients ∙ h.clients;
  each = subst (Each (all_sound s)) (sym brokers) h.each;
}

does_begun : (s : Setup) (w : World) (o : Option Planned) → Begun s w → Begun s (does_planned s w o)
unfolding broker_does
does_begun s w None h = record { brokers = h.brokers; clients = h.clients; each = h.each }
does_begun s w (Some p) h =
    let n : ℕ = node s p.topic p.cluster in
    let g = set_begun s w n (done s.per_ledger (broker_at w n) p.plan) h (λ b. done_sound (length s.clusters) s.per_ledger (broker_at w n) p.plan b) in
    on_if (Begun s) p.plan.idle _ _ (record { brokers = h.brokers; clients = h.clients; each = h.each }) (record { brokers = g.brokers; clients = g.clients; each = g.each })

halts_begun : (s : Setup) (w : World) (k : ℕ) (o : Option Planned) → Begun s w → Begun s (halts_planned s w k o)
unfolding broker_halts
halts_begun s w k None h = record { brokers = h.brokers; clients = h.clients; each = h.each }
halts_begun s w k (Some p) h =
    let n : ℕ = node s p.topic p.cluster in
    let g = set_begun s w n (halted s.per_ledger (broker_at w n) k p.plan) h (λ b. halted_sound (length s.clusters) s.per_ledger (broker_at w n) k p.plan b) in
    record { brokers = g.brokers; clients = g.clients; each = g.each }

acts_begun : (s : Setup) (w : World) (c : ℕ) (takes : _) (a : _) → Begun s w → Begun s (client_does s w c takes a)
unfolding client_does
acts_begun s w c takes a h =
    on_if (Begun s) a.idle _ _ (record { brokers = h.brokers; clients = h.clients; each = h.each })
    (record { brokers = h.brokers; clients = length-set w.clients c a.client ∙ h.clients; each = h.each })

event_begun : (s : Setup) (w : World) (e : Event) → Begun s w → Begun s (happens s w e)
unfolding happens
event_begun s w (event.Go c) h = on_if (Begun s) (has_client s c) _ _ (acts_begun s w c _ _ h) (does_begun s w None h)
event_begun s w (event.Reconnect c) h = on_if (Begun s) (has_client s c) _ _ (acts_begun s w c _ _ h) (does_begun s w None h)
event_begun s w (event.Get c) h = on_if (Begun s) (has_client s c) _ _ (acts_begun s w c _ _ h) (does_begun s w None h)
event_begun s w e h = does_begun s w (planned s w e) h

each_mapped : (s : Setup) (bs : List Broker) → Each (all_sound s) bs → Each (all_sound s) (map (λ (b : Broker). done s.per_ledger b restart) bs)
each_mapped s [] h = tt
each_mapped s (b ∷ bs) h = (done_sound (length s.clusters) s.per_ledger b restart h.0, each_mapped s bs h.1)

stop_begun : (s : Setup) (w : World) → Begun s w → Begun s (stops s w)
unfolding stops
stop_begun s w h = record {
  brokers = length-map w.brokers (λ (b : Broker). done s.per_ledger b restart) ∙ h.brokers;
  clients = length-map w.clients unconnected ∙ h.clients;
  each = each_mapped s w.brokers h.each;
}

-- ---- a plain event, a stop in one

-- how a world came of another one by an event at a node that a limit let through or not
plain_reads : (s : Setup) (w v : World) (e : Event) → Tells s w v (node_of s e) → reads_step s (kept_of s w) (did_or_idle s w v e) ≡ kept_of s v
plain_reads s w v e (Tells.Idles same kept) =
    ap (λ (t : Bool). reads_step s (kept_of s w) (if t then WasIdle else Did (changed_at s w v (node_of s e)))) (eq-eqb v.events w.events same) ∙ sym kept
plain_reads s w v e (Tells.Acts more reads) =
    ap (λ (t : Bool). reads_step s (kept_of s w) (if t then WasIdle else Did (changed_at s w v (node_of s e)))) (differ (v.events == w.events) refl) ∙ reads
  where
    differ : (t : Bool) → (v.events == w.events) ≡ t → t ≡ false
    differ false h = refl
    differ true h = absurd (omega (arith, more, eqb-true v.events w.events h))

same_step : (s : Setup) (w : World) (e : Event) → reads_step s (kept_of s w) (did_or_idle s w w e) ≡ kept_of s w
same_step s w e = ap (λ (t : Bool). reads_step s (kept_of s w) (if t then WasIdle else Did (changed_at s w w (node_of s e)))) (eq-eqb w.events w.events refl)

abbrev Plainly : Setup → Event → Ran → Ran → Type 0
Plainly s e r q = reads_step s (kept_of s r.world) (did_or_idle s r.world q.world e) ≡ kept_of s q.world

let_through : (l : Limits) (s : Setup) (r : Ran) (v : World) (e : Event) → Tells s r.world v (node_of s e) → Plainly s e r (goes_on l r v)
let_through l s r v e tells = on_if (Plainly s e r) (is_some r.ended) r (ends_or r v (l v)) (same_step s r.world e) (by (l v))
  where
    by : (o : Option ℕ) → Plainly s e r (ends_or r v o)
    by None = plain_reads s r.world v e tells
    by (Some n) = same_step s r.world e

-- ---- settling

reads_more : (s : Setup) (k : Kept) (xs ys : List ToldEvent) → reads_events s k (xs ++ ys) ≡ reads_events s (reads_events s k xs) ys
reads_more s k [] ys = refl
reads_more s k (x ∷ xs) ys = reads_more s (reads_changed s k x.at) xs ys

abbrev Settles : Setup → Event → Ran → Ran → Type 0
Settles s e r q = reads_events s (kept_of s r.world) (told_settling s r.world q e) ≡ kept_of s q.world

-- the event's idling does not count
abbrev settled_by : Setup → Ran → Event → World
settled_by s r e = record (happens s r.world e) { idle = r.world.idle }

not_told : (s : Setup) (r : Ran) (e : Event) → Settles s e r r
not_told s r e = on_if (λ (es : List ToldEvent). reads_events s (kept_of s r.world) es ≡ kept_of s r.world) (is_some r.ended) [] _ refl
    (ap (λ (t : Bool). reads_events s (kept_of s r.world) (if t then [] else record { event = e; number = r.world.events; at = changed_at s r.world r.world (node_of s e) } ∷ [])) (eq-eqb r.world.events r.world.events refl))

one_settled : (l : Limits) (s : Setup) (r : Ran) (e : Event) → Begun s r.world → Settles s e r (settles l s r e)
one_settled l s r e h = on_if (Settles s e r) (is_some r.ended) r (ends_or r v (l v)) (not_told s r e) (by (l v))
  where
    v : World
    v = settled_by s r e

    ended : (n : ℕ) → Settles s e r (record { world = r.world; ended = Some n })
    ended n = refl

    told : Tells s r.world (happens s r.world e) (node_of s e) → Settles s e r (record { world = v; ended = None })
    told (Tells.Idles same kept) =
        ap (λ (t : Bool). reads_events s (kept_of s r.world) (if t then [] else record { event = e; number = v.events; at = changed_at s r.world v (node_of s e) } ∷ [])) (eq-eqb v.events r.world.events same) ∙ sym kept
    told (Tells.Acts more reads) =
        ap (λ (t : Bool). reads_events s (kept_of s r.world) (if t then [] else record { event = e; number = v.events; at = changed_at s r.world v (node_of s e) } ∷ [])) (differ more (v.events == r.world.events) refl) ∙ node_reads (node_of s e) reads
      where
        differ : v.events ≡ r.world.events + 1 → (t : Bool) → (v.events == r.world.events) ≡ t → t ≡ false
        differ more false g = refl
        differ more true g = absurd (omega (arith, more, eqb-true v.events r.world.events g))

        node_reads : (n : Node) → reads_changed s (kept_of s r.world) (changed_at s r.world (happens s r.world e) n) ≡ kept_of s (happens s r.world e)
            → reads_changed s (kept_of s r.world) (changed_at s r.world v n) ≡ kept_of s v
        node_reads (BrokerNode t x) g = g
        node_reads (ClientNode c) g = g

    by : (o : Option ℕ) → Settles s e r (ends_or r v o)
    by None = told (event_told s r.world e h)
    by (Some n) = ended n

one_begun : (l : Limits) (s : Setup) (r : Ran) (e : Event) → Begun s r.world → Begun s (settles l s r e).world
one_begun l s r e h = on_if (λ (q : Ran). Begun s q.world) (is_some r.ended) r (ends_or r (settled_by s r e) (l (settled_by s r e))) h (by (l (settled_by s r e)))
  where
    by : (o : Option ℕ) → Begun s (ends_or r (settled_by s r e) o).world
    by None = like s (settled_by s r e) (happens s r.world e) refl refl (event_begun s r.world e h)
    by (Some n) = h

all_begun : (l : Limits) (s : Setup) (r : Ran) (es : List Event) → Begun s r.world → Begun s (all_settle l s r es).world
all_begun l s r [] h = h
all_begun l s r (e ∷ es) h = all_begun l s (settles l s r e) es (one_begun l s r e h)

all_settled : (l : Limits) (s : Setup) (r : Ran) (es : List Event) → Begun s r.world
    → reads_events s (kept_of s r.world) (settling_told l s r es) ≡ kept_of s (all_settle l s r es).world
all_settled l s r [] h = refl
all_settled l s r (e ∷ es) h =
    let q : Ran = settles l s r e in
    reads_more s (kept_of s r.world) (told_settling s r.world q e) (settling_told l s q es)
    ∙ ap (λ (k : Kept). reads_events s k (settling_told l s q es)) (one_settled l s r e h)
    ∙ all_settled l s q es (one_begun l s r e h)

-- what the rounds after one that did something tell
abbrev behind : Bool → Bool → List ToldEvent → List ToldEvent
behind ended same es = elim (not ended && not same) as (λ b. List ToldEvent) [ true ↦ es | false ↦ [] ]

abbrev ran : Bool → Bool → Ran → Ran → Ran
ran ended same q more = elim (ended || same) as (λ b. Ran) [ true ↦ q | false ↦ more ]

rounds_settled : (more : ℕ) (l : Limits) (s : Setup) (r : Ran) → Begun s r.world → reads_events s (kept_of s r.world) (rounds_told more l s r) ≡ kept_of s (rounds_of more l s r).world
rounds_settled zero l s r h = refl
rounds_settled (suc more) l s r h =
    let q : Ran = all_settle l s r (round_of (pairs s)) in let next : Ran = counting_round q in
    reads_more s (kept_of s r.world) (settling_told l s r (round_of (pairs s))) (behind (is_some q.ended) (q.world.events == r.world.events) (rounds_told more l s next))
    ∙ ap (λ (k : Kept). reads_events s k (behind (is_some q.ended) (q.world.events == r.world.events) (rounds_told more l s next))) (all_settled l s r (round_of (pairs s)) h)
    ∙ by q (is_some q.ended) (q.world.events == r.world.events) (rounds_told more l s next) (rounds_of more l s next)
    (rounds_settled more l s next (like s next.world q.world refl refl (all_begun l s r (round_of (pairs s)) h)))
  where
    by : (q : Ran) (ended same : Bool) (es : List ToldEvent) (last : Ran) → reads_events s (kept_of s q.world) es ≡ kept_of s last.world
        → reads_events s (kept_of s q.world) (behind ended same es) ≡ kept_of s (ran ended same q last).world
    by q true same es last ih = refl
    by q false true es last ih = refl
    by q false false es last ih = ih

-- ---- a stop of everything

-- the brokers of which m have stopped
abbrev stopped : Setup → ℕ → List Broker → List Broker
stopped s m bs = map (λ (b : Broker). done s.per_ledger b restart) (take m bs) ++ drop m bs

-- one more stops
stop_next : (s : Setup) (m : ℕ) (bs : List Broker) → m < length bs
    → slice_set (stopped s m bs) m (done s.per_ledger (slice_index_or bs m no_broker) restart) ≡ stopped s (suc m) bs
stop_next s zero [] lt = absurd (omega (arith, lt))
stop_next s zero (b ∷ bs) lt = refl
stop_next s (suc m) [] lt = absurd (omega (arith, lt))
stop_next s (suc m) (b ∷ bs) lt = ap (λ (cs : List Broker). done s.per_ledger b restart ∷ cs) (stop_next s m bs (omega (arith, lt)))

stopped_length : (s : Setup) (m : ℕ) (bs : List Broker) → length (stopped s m bs) ≡ length bs
stopped_length s zero bs = refl
stopped_length s (suc m) [] = refl
stopped_length s (suc m) (b ∷ bs) = ap suc (stopped_length s m bs)

-- the next one has not
stop_here : (s : Setup) (m : ℕ) (bs : List Broker) → slice_index_or (stopped s m bs) m no_broker ≡ slice_index_or bs m no_broker
stop_here s zero bs = refl
stop_here s (suc m) [] = refl
stop_here s (suc m) (b ∷ bs) = stop_here s m bs

stopped_all : (s : Setup) (bs : List Broker) → stopped s (length bs) bs ≡ map (λ (b : Broker). done s.per_ledger b restart) bs
stopped_all s [] = refl
stopped_all s (b ∷ bs) = ap (λ (cs : List Broker). done s.per_ledger b restart ∷ cs) (stopped_all s bs)

stopped_sound : (s : Setup) (m : ℕ) (bs : List Broker) → Each (all_sound s) bs → Each (all_sound s) (stopped s m bs)
stopped_sound s zero bs h = h
stopped_sound s (suc m) [] h = tt
stopped_sound s (suc m) (b ∷ bs) h = (done_sound (length s.clusters) s.per_ledger b restart h.0, stopped_sound s m bs h.1)

-- the world in which m brokers have stopped
abbrev half : Setup → ℕ → World → World
half s m w = record w { brokers = stopped s m w.brokers }

half_begun : (s : Setup) (m : ℕ) (w : World) → Begun s w → Begun s (half s m w)
half_begun s m w h = record { brokers = stopped_length s m w.brokers ∙ h.brokers; clients = h.clients; each = stopped_sound s m w.brokers h.each }

reads_on : (s : Setup) (k : Kept) (xs ys : List Changed) → reads_changed s k (xs ++ ys) ≡ reads_changed s (reads_changed s k xs) ys
reads_on s k [] ys = refl
reads_on s k (x ∷ xs) ys = reads_on s (reads_at s k x.changes x.node) xs ys

restart_goes : (s : Setup) (b : Broker) → all_sound s b → GoesOn b (done s.per_ledger b restart)
unfolding restart
restart_goes s b h = done_goes (length s.clusters) s.per_ledger b restart tt h

stop_one : (s : Setup) (w : World) (t x m : ℕ) → m ≡ node s t x → m < length w.brokers → x < length s.clusters → Begun s w
    → reads_changed s (kept_of s (half s m w)) (changed_at s w (stops s w) (BrokerNode t x)) ≡ kept_of s (half s (suc m) w)
unfolding stops
stop_one s w t x m at lt within h =
    ap (λ (c : Broker). reads_changed s (kept_of s (half s m w)) (unless_none (BrokerNode t x) (broker_changes s.clusters x c (topic_at s (stops s w) t x)))) (sym was)
    ∙ ap (λ (c : Broker). reads_changed s (kept_of s (half s m w)) (unless_none (BrokerNode t x) (broker_changes s.clusters x (topic_at s (half s m w) t x) c))) (sym now)
    ∙ broker_told s (half s m w) (half s (suc m) w) t x a (half_begun s m w h) within set refl
    (λ k. subst (λ (c : Broker). all_sound s (done s.per_ledger c restart)) was (done_sound (length s.clusters) s.per_ledger (topic_at s (half s m w) t x) restart k))
    (λ k. subst (λ (c : Broker). GoesOn (topic_at s (half s m w) t x) (done s.per_ledger c restart)) was (restart_goes s (topic_at s (half s m w) t x) k))
  where
    b : Broker
    b = topic_at s w t x

    a : Broker
    a = done s.per_ledger b restart

    was : topic_at s (half s m w) t x ≡ b
    was =
        ap (λ (n : ℕ). slice_index_or (stopped s m w.brokers) n no_broker) (sym at) ∙ stop_here s m w.brokers ∙ ap (λ (n : ℕ). slice_index_or w.brokers n no_broker) at

    set : stopped s (suc m) w.brokers ≡ slice_set (stopped s m w.brokers) (node s t x) a
    set =
        sym (stop_next s m w.brokers lt) ∙ ap (λ (n : ℕ). slice_set (stopped s m w.brokers) n (done s.per_ledger (slice_index_or w.brokers n no_broker) restart)) at

    now : topic_at s (half s (suc m) w) t x ≡ slice_index_or (map (λ (c : Broker). done s.per_ledger c restart) w.brokers) (node s t x) no_broker
    now =
        ap (λ (bs : List Broker). slice_index_or bs (node s t x) no_broker) set
        ∙ get_or-set_same (stopped s m w.brokers) (node s t x) a no_broker (subst (λ (n : ℕ). n < length (stopped s m w.brokers)) at (subst (λ (n : ℕ). m < n) (sym (stopped_length s m w.brokers)) lt))
        ∙ sym (get_or-map (λ (c : Broker). done s.per_ledger c restart) w.brokers (node s t x) no_broker no_broker (subst (λ (n : ℕ). n < length w.brokers) at lt))

stop_clusters : (s : Setup) (w : World) (t x m : ℕ) (ns : List (List ℕ)) → m ≡ node s t x → m + length ns ≤ length w.brokers → x + length ns ≤ length s.clusters → Begun s w
    → reads_changed s (kept_of s (half s m w)) (changed_from s w (stops s w) t x ns) ≡ kept_of s (half s (m + length ns) w)
stop_clusters s w t x m [] at lt within h = ap (λ (n : ℕ). kept_of s (half s n w)) (omega arith)
stop_clusters s w t x m (n ∷ ns) at lt within h =
    let more : suc m + length ns ≡ m + suc (length ns) = omega arith in
    let next : suc m ≡ node s t (x + 1) = omega (arith, at) in
    reads_on s (kept_of s (half s m w)) (changed_at s w (stops s w) (BrokerNode t x)) (changed_from s w (stops s w) t (x + 1) ns)
    ∙ ap (λ (k : Kept). reads_changed s k (changed_from s w (stops s w) t (x + 1) ns)) (stop_one s w t x m at (omega (arith, lt)) (omega (arith, within)) h)
    ∙ stop_clusters s w t (x + 1) (suc m) ns next (omega (arith, lt)) (omega (arith, within)) h
    ∙ ap (λ (i : ℕ). kept_of s (half s i w)) more

stop_topics : (s : Setup) (w : World) (t m : ℕ) (ns : List (List ℕ)) → m ≡ t * length s.clusters → t + length ns ≡ length s.topics → Begun s w
    → reads_changed s (kept_of s (half s m w)) (changed_in s w (stops s w) t ns) ≡ kept_of s (half s (length w.brokers) w)
stop_topics s w t m [] at all h =
    let last : t ≡ length s.topics = omega (arith, all) in
    ap (λ (n : ℕ). kept_of s (half s n w)) (at ∙ ap (λ (i : ℕ). i * length s.clusters) last ∙ sym h.brokers)
stop_topics s w t m (n ∷ ns) at all h =
    let c : ℕ = length s.clusters in
    let first : m ≡ node s t 0 = omega (arith, at) in
    let next : m + c ≡ (t + 1) * c = at_next t c m at in
    let within : m + c ≤ length w.brokers = fits t c (length ns) (length s.topics) m at all (length w.brokers) h.brokers in
    reads_on s (kept_of s (half s m w)) (changed_from s w (stops s w) t 0 s.clusters) (changed_in s w (stops s w) (t + 1) ns)
    ∙ ap (λ (k : Kept). reads_changed s k (changed_in s w (stops s w) (t + 1) ns)) (stop_clusters s w t 0 m s.clusters first within (omega arith) h)
    ∙ stop_topics s w (t + 1) (m + c) ns next (omega (arith, all)) h
  where
    at_next : (t c m : ℕ) → m ≡ t * c → m + c ≡ (t + 1) * c
    at_next t c m e = ap (λ (i : ℕ). i + c) e ∙ grind arith

    fits : (t c k n m : ℕ) → m ≡ t * c → t + suc k ≡ n → (l : ℕ) → l ≡ n * c → m + c ≤ l
    fits t c k n m e f l g = grind (arith, e, f, g)

unconnected_kept : (s : Setup) (c : ℕ) (ks : List Client) → kept_clients s c (map unconnected ks) ≡ kept_clients s c ks
unconnected_kept s c [] = refl
unconnected_kept s c (k ∷ ks) = ap (λ (js : List KeptClient). kept_client s (declared_at s c) k ∷ js) (unconnected_kept s (c + 1) ks)

stop_reads : (s : Setup) (w : World) → Begun s w → reads_changed s (kept_of s w) (changed_in s w (stops s w) 0 s.topics) ≡ kept_of s (stops s w)
unfolding stops
stop_reads s w h =
    stop_topics s w 0 0 s.topics (omega arith) (omega arith) h
    ∙ ap (λ (bs : List Broker). record { brokers = kept_brokers s 0 bs; clients = kept_clients s 0 w.clients }) (stopped_all s w.brokers)
    ∙ ap (λ (ks : List KeptClient). record { brokers = kept_brokers s 0 (map (λ (b : Broker). done s.per_ledger b restart) w.brokers); clients = ks }) (sym (unconnected_kept s 0 w.clients))

-- where a limit is in its way nothing is told
same_node : (s : Setup) (w : World) (t x : ℕ) → x < length s.clusters → Begun s w → reads_changed s (kept_of s w) (changed_at s w w (BrokerNode t x)) ≡ kept_of s w
same_node s w t x within h =
    let b : Broker = topic_at s w t x in
    broker_told s w w t x b h within (sym (set-get_or w.brokers (node s t x) no_broker)) refl (λ k. k)
    (λ k. record { stays = unchanged b; follows = follows b.subs b.subs (Renamed.Kept (names b.subs) refl) k.apart k.apart })

same_clusters : (s : Setup) (w : World) (t x : ℕ) (ns : List (List ℕ)) → x + length ns ≤ length s.clusters → Begun s w
    → reads_changed s (kept_of s w) (changed_from s w w t x ns) ≡ kept_of s w
same_clusters s w t x [] within h = refl
same_clusters s w t x (n ∷ ns) within h =
    reads_on s (kept_of s w) (changed_at s w w (BrokerNode t x)) (changed_from s w w t (x + 1) ns)
    ∙ ap (λ (k : Kept). reads_changed s k (changed_from s w w t (x + 1) ns)) (same_node s w t x (omega (arith, within)) h)
    ∙ same_clusters s w t (x + 1) ns (omega (arith, within)) h

same_topics : (s : Setup) (w : World) (t : ℕ) (ns : List (List ℕ)) → Begun s w → reads_changed s (kept_of s w) (changed_in s w w t ns) ≡ kept_of s w
same_topics s w t [] h = refl
same_topics s w t (n ∷ ns) h =
    reads_on s (kept_of s w) (changed_from s w w t 0 s.clusters) (changed_in s w w (t + 1) ns)
    ∙ ap (λ (k : Kept). reads_changed s k (changed_in s w w (t + 1) ns)) (same_clusters s w t 0 s.clusters (omega arith) h)
    ∙ same_topics s w (t + 1) ns h

-- ---- a step, a run

abbrev Stops : Setup → Ran → Ran → Type 0
Stops s r q = reads_changed s (kept_of s r.world) (changed_in s r.world q.world 0 s.topics) ≡ kept_of s q.world

stop_through : (l : Limits) (s : Setup) (r : Ran) → Begun s r.world → Stops s r (goes_on l r (stops s r.world))
stop_through l s r h = on_if (Stops s r) (is_some r.ended) r (ends_or r (stops s r.world) (l (stops s r.world))) (same_topics s r.world 0 s.topics h) (by (l (stops s r.world)))
  where
    by : (o : Option ℕ) → Stops s r (ends_or r (stops s r.world) o)
    by None = stop_reads s r.world h
    by (Some n) = same_topics s r.world 0 s.topics h

settle_reads : (l : Limits) (s : Setup) (r : Ran) → Begun s r.world
    → reads_events s (kept_of s r.world) (settle_told l s r) ≡ kept_of s (rounds_of (budget s r.world + 1) l s (all_settle l s r (resets_of (pairs s)))).world
settle_reads l s r h =
    let q : Ran = all_settle l s r (resets_of (pairs s)) in let rest : List ToldEvent = rounds_told (budget s r.world + 1) l s q in
    reads_more s (kept_of s r.world) (settling_told l s r (resets_of (pairs s))) rest
    ∙ ap (λ (k : Kept). reads_events s k rest) (all_settled l s r (resets_of (pairs s)) h)
    ∙ rounds_settled (budget s r.world + 1) l s q (all_begun l s r (resets_of (pairs s)) h)

step_reads : (l : Limits) (s : Setup) (r : Ran) (e : Step) → Begun s r.world → reads_step s (kept_of s r.world) (step_told l s r e) ≡ kept_of s (steps l s r e).world
unfolding step_told steps settled_world
step_reads l s r (step.Plain e) h = let_through l s r (happens s r.world e) e (event_told s r.world e h)
step_reads l s r (step.Halt k e) h = let_through l s r (halts_planned s r.world k (planned s r.world e)) e (halted_told s r.world k e h)
step_reads l s r step.Settle h = settle_reads l s r h
step_reads l s r step.Stop h = stop_through l s r h

on_begun : (l : Limits) (s : Setup) (r : Ran) (v : World) → Begun s r.world → Begun s v → Begun s (goes_on l r v).world
on_begun l s r v h g = on_if (λ (q : Ran). Begun s q.world) (is_some r.ended) r (ends_or r v (l v)) h (by (l v))
  where
    by : (o : Option ℕ) → Begun s (ends_or r v o).world
    by None = g
    by (Some n) = h

rounds_begun : (more : ℕ) (l : Limits) (s : Setup) (r : Ran) → Begun s r.world → Begun s (rounds_of more l s r).world
rounds_begun zero l s r h = h
rounds_begun (suc more) l s r h =
    let q : Ran = all_settle l s r (round_of (pairs s)) in let g : Begun s q.world = all_begun l s r (round_of (pairs s)) h in
    on_elim (λ (p : Ran). Begun s p.world) (is_some q.ended || (q.world.events == r.world.events)) q (rounds_of more l s (counting_round q)) g
    (rounds_begun more l s (counting_round q) (like s (counting_round q).world q.world refl refl g))

step_begun : (l : Limits) (s : Setup) (r : Ran) (e : Step) → Begun s r.world → Begun s (steps l s r e).world
unfolding steps settled_world
step_begun l s r (step.Plain e) h = on_begun l s r (happens s r.world e) h (event_begun s r.world e h)
step_begun l s r (step.Halt k e) h = on_begun l s r (halts_planned s r.world k (planned s r.world e)) h (halts_begun s r.world k (planned s r.world e) h)
step_begun l s r step.Settle h = rounds_begun (budget s r.world + 1) l s (all_settle l s r (resets_of (pairs s))) (all_begun l s r (resets_of (pairs s)) h)
step_begun l s r step.Stop h = on_begun l s r (stops s r.world) h (stop_begun s r.world h)

pub run_reads : (l : Limits) (s : Setup) (r : Ran) (es : List Step) → Begun s r.world → reads_steps s (kept_of s r.world) (told_from l s r es) ≡ kept_of s (run_from l s r es).world
run_reads l s r [] h = refl
run_reads l s r (e ∷ es) h =
    ap (λ (k : Kept). reads_steps s k (told_from l s (steps l s r e) es)) (step_reads l s r e h)
    ∙ run_reads l s (steps l s r e) es (step_begun l s r e h)

pub run_begun : (l : Limits) (s : Setup) (r : Ran) (es : List Step) → Begun s r.world → Begun s (run_from l s r es).world
run_begun l s r [] h = h
run_begun l s r (e ∷ es) h = run_begun l s (steps l s r e) es (step_begun l s r e h)
