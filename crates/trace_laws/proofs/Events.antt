-- An event, told by its lines: an audit that sees the world before it accepts them, and sees the world after it.
use Rattle.std.proofs.Common.{◌≡◌, ℕ, ◌+◌, ◌*◌, ◌<◌, Bool, true, false, List, [], ◌∷◌, length, map, refl, sym, ap, ◌∙◌, arith}
use Rattle.std.specs.Prelude.{Option, Some, None, if◌then◌else◌, nat_lt, slice_set, take, Ok}
use Rattle.std.specs.Str.{bytes_eq}
use Rattle.std.proofs.lemmas.Bool.{eq-eqb, ltb-true}
use Rattle.std.proofs.lemmas.List.{map-set}
use Rattle.world_laws.proofs.Types.{Change, Event, Fate, Packet, Session, Write}
use Rattle.world_laws.proofs.Types.change
use Rattle.world_laws.proofs.Types.event
use Rattle.geo_base.specs.Broker.{Broker, changed, session_at}
use Rattle.geo_base.specs.Cache.{cached}
use Rattle.geo_base.specs.Dispatcher.{given, skipped_index}
use Rattle.geo_base.specs.Forwarding.{is_remote, receipt, reset, take_packet}
use Rattle.geo_base.specs.Link.{next_packet}
use Rattle.geo_base.specs.Plan.{Plan, all_changed, all_written, idle_plan}
use Rattle.geo_base.specs.Planned.{Planned, has_client, has_node, has_pair, in_range, planned, planned_in}
use Rattle.geo_base.specs.Moments.{partly_written}
use Rattle.geo_base.specs.Seeking.{restart}
use Rattle.geo_base.specs.Serving.{drop_client, drop_session, serve}
use Rattle.geo_base.specs.Setup.{Setup, declared_at, sub_name}
use Rattle.geo_base.specs.Subscription.{Subscription, after_acks, attached, cleared, detached, permitted}
use Rattle.geo_base.specs.World.{Forward, World, link_at, node, site, topic_at}
use Rattle.world_laws.proofs.TopicOrder.Added.{came_other}
use Rattle.world_laws.proofs.OnceInOrder.Appends.{fresh}
use Rattle.world_laws.proofs.Walks.EventWalk.{of_node, of_pair, of_sub, of_target}
use Rattle.world_laws.proofs.OnceInOrder.Fresh.{Fresh}
use Rattle.world_laws.proofs.Walks.LinkWalk.{fate_answered, fate_taken}
use Rattle.world_laws.proofs.TopicOrder.NoSelf.{NoSelf}
use Rattle.world_laws.proofs.Walks.OfferWalk.{offer_shape, seek_shape, snap_shape}
use Rattle.world_laws.proofs.Walks.ReadWalk.{read_shape}
use Rattle.world_laws.proofs.Snapshotting.SecondRound.{Knows}
use Rattle.world_laws.proofs.Walks.ServeWalk.{frame_served}
use Rattle.world_laws.proofs.Replicating.Sizes.{IsThere, node_lt}
use Rattle.world_laws.proofs.Dispatching.SubFrames.{at_name}
use Rattle.world_laws.proofs.Walks.Walk.{left, on_if, right}
use Rattle.geo_base.specs.declared.planned.Cause.{Cause}
use Rattle.geo_base.specs.declared.planned.Cause.TheVariants as cause
use Rattle.geo_base.specs.TraceItems.{Begins, Item}
use Rattle.geo_base.specs.Traced.{acts_of, cause_of, told_at}
use Rattle.geo_base.specs.Mirror.{Mirror, mirror_number}
use Rattle.geo_base.specs.Audit.{judged, refused, unless_broken}
use Rattle.geo_base.specs.Run.{or_else}
use Rattle.audit.specs.Strict.{audited_from_by}
use Rattle.audit.specs.declared.strictness.Strictness.TheVariants as strictness
use Rattle.trace_laws.specs.Seen.{seen, sub_seen, world_seen}
use Rattle.trace_laws.proofs.Shaped.{came_plan, fated_came, fated_replicators, offers_hold, reads_hold, seeks_hold, replicators_hold, served_holds, snaps_hold}
use Rattle.trace_laws.proofs.Told.{Here, same_set}
use Rattle.trace_laws.proofs.Writes.{PlanHolds, all_accepted, seen_same}

-- ---- what is known of a world

pub record Whole (s : Setup) (w : World) : Type 0 where
  pub here : (t x : ℕ) → IsThere s t x → Here s w t x
  pub sized : length w.brokers ≡ length s.topics * length s.clusters
  pub none : NoSelf s w
  pub declared : (c : ℕ) → has_client s c ≡ true → (declared_at s c).topic < length s.topics

node_within : (s : Setup) (w : World) (t x : ℕ) → Whole s w → IsThere s t x → node s t x < length w.brokers
node_within s w t x a there = let lt = node_lt s t x there in let size = a.sized in omega (arith, lt, size)

node_there : (s : Setup) (t x : ℕ) → has_node s t x ≡ true → IsThere s t x
node_there s t x h = (ltb-true t (length s.topics) (left (nat_lt t (length s.topics)) (nat_lt x (length s.clusters)) h), ltb-true x (length s.clusters) (of_node s t x h))

-- ---- the plan of each event

-- why the lines of a planned event are accepted, n being its number
abbrev pub PlannedHolds : Setup → World → ℕ → Event → Option Planned → Type 0
PlannedHolds s w n e None = Unit {0}
PlannedHolds s w n e (Some p) =
    IsThere s p.topic p.cluster
    × PlanHolds s w.brokers n p.topic p.cluster (cause_of (topic_at s w p.topic p.cluster) e) (topic_at s w p.topic p.cluster) p.plan.writes

abbrev pub FreshIn : Setup → World → Option Planned → Type 0
FreshIn s w None = Unit {0}
FreshIn s w (Some p) = Fresh (topic_at s w p.topic p.cluster) p.plan

serve_holds : (s : Setup) (w : World) (n t x c : ℕ) (o : Option Packet) → Here s w t x → fresh (topic_at s w t x).entries (serve (site s t x) (topic_at s w t x) c o).writes ≡ true
    → PlanHolds s w.brokers n t x cause.Client (topic_at s w t x) (serve (site s t x) (topic_at s w t x) c o).writes
unfolding serve
serve_holds s w n t x c None h new = tt
serve_holds s w n t x c (Some p) h new = served_holds s w n t x c p _ h (frame_served (site s t x) (topic_at s w t x) c p p.frame refl) new

drop_holds : (s : Setup) (w : World) (n t x c : ℕ) (k : Cause) (o : Option Session) → PlanHolds s w.brokers n t x k (topic_at s w t x) (drop_session c o).writes
drop_holds s w n t x c k None = tt
drop_holds s w n t x c k (Some v) = tt

reset_holds : (s : Setup) (w : World) (n t x y : ℕ) (k : Cause) → PlanHolds s w.brokers n t x k (topic_at s w t x) (reset (site s t x) (topic_at s w t x) y).writes
unfolding reset
reset_holds s w n t x y k = on_if (λ (q : Plan). PlanHolds s w.brokers n t x k (topic_at s w t x) q.writes) (is_remote (site s t x) y) _ idle_plan (tt, tt) tt

take_holds : (s : Setup) (w : World) (n t x y : ℕ) (f : Fate) (o : Option Packet) → Whole s w → has_pair s t x y ≡ true → next_packet (link_at w.links (Forward (node s t x) y)) ≡ o
    → fresh (topic_at s w t y).entries (take_packet (site s t y) (topic_at s w t y) x f o).writes ≡ true
    → ((k : ℕ) → Knows s (record w { brokers = slice_set w.brokers (node s t y) (all_written s.per_ledger (topic_at s w t y) (take k (take_packet (site s t y) (topic_at s w t y) x f o).writes)) }))
    → PlanHolds s w.brokers n t y cause.Client (topic_at s w t y) (take_packet (site s t y) (topic_at s w t y) x f o).writes
unfolding take_packet
take_holds s w n t x y f None a within next new knows = tt
take_holds s w n t x y f (Some p) a within next new knows =
    let small = ltb-true y (length s.clusters) (of_target s t x y within) in
    let source = node_there s t x (of_pair s t x y within) in
    let there : IsThere s t y = (source.0, small) in
    came_plan s w n t x y cause.Client [] _ (a.here t y there) source.1 (came_other s w t x y p a.none small next) (node_within s w t y a there)
    (fated_came s.per_ledger (site s t y) (topic_at s w t y) x p _ (fate_taken (site s t y) (topic_at s w t y) x p f)) new knows

receipt_holds : (s : Setup) (w : World) (n t x y : ℕ) (k : Cause) (f : Fate) (o : Option Packet) → PlanHolds s w.brokers n t x k (topic_at s w t x) (receipt (site s t x) (topic_at s w t x) y f o).writes
unfolding receipt
receipt_holds s w n t x y k f None = tt
receipt_holds s w n t x y k f (Some p) =
    replicators_hold s w.brokers n t x k (topic_at s w t x) _ (fated_replicators s.per_ledger (topic_at s w t x) y p _ (fate_answered (site s t x) (topic_at s w t x) y p f))

event_holds : (s : Setup) (w : World) (n : ℕ) (e : Event) → in_range s e ≡ true → Whole s w → FreshIn s w (planned_in s w e) → ((k : ℕ) → Knows s (partly_written s w k (planned_in s w e)))
    → PlannedHolds s w n e (planned_in s w e)
unfolding drop_client restart
event_holds s w n (event.Serve x c) within a new knows =
    let t = (declared_at s c).topic in
    let there : IsThere s t x =
    (a.declared c (right (nat_lt x (length s.clusters)) (has_client s c) within), ltb-true x (length s.clusters) (left (nat_lt x (length s.clusters)) (has_client s c) within)) in
    (there, serve_holds s w n t x c _ (a.here t x there) new)
event_holds s w n (event.Drop x c) within a new knows =
    let t = (declared_at s c).topic in
    let there : IsThere s t x =
    (a.declared c (right (nat_lt x (length s.clusters)) (has_client s c) within), ltb-true x (length s.clusters) (left (nat_lt x (length s.clusters)) (has_client s c) within)) in
    (there, drop_holds s w n t x c cause.Client (session_at (topic_at s w t x) c))
event_holds s w n (event.Reset t x y) within a new knows = (node_there s t x (of_pair s t x y within), reset_holds s w n t x y cause.Client)
event_holds s w n (event.Read t x y) within a new knows =
    let there = node_there s t x (of_pair s t x y within) in
    (there, reads_hold s w n t x y _ (a.here t x there) (read_shape (site s t x) (topic_at s w t x) y) new)
event_holds s w n (event.Take t x y f) within a new knows =
    let source = node_there s t x (of_pair s t x y within) in
    ((source.0, ltb-true y (length s.clusters) (of_target s t x y within)), take_holds s w n t x y f (next_packet (link_at w.links (Forward (node s t x) y))) a within refl new knows)
event_holds s w n (event.Receipt t x y f) within a new knows = (node_there s t x (of_pair s t x y within), receipt_holds s w n t x y cause.Client f _)
event_holds s w n (event.Snap t x) within a new knows =
    let there = node_there s t x within in (there, snaps_hold s w n t x cause.Client _ (a.here t x there) (snap_shape (site s t x) (topic_at s w t x)) new)
event_holds s w n (event.Offer t x m) within a new knows =
    let there = node_there s t x (of_sub s t x m within) in
    (there, offers_hold s w n t x (sub_name s t m) _ (a.here t x there) (offer_shape (site s t x) (topic_at s w t x) (sub_name s t m)) new)
event_holds s w n (event.Seek t x m to) within a new knows =
    let there = node_there s t x (of_sub s t x m within) in
    (there, seeks_hold s w n t x cause.Client (sub_name s t m) to _ (a.here t x there) (seek_shape (site s t x) (topic_at s w t x) (sub_name s t m) to) new)
event_holds s w n (event.Restart t x) within a new knows = (node_there s t x within, (tt, tt))
event_holds s w n (event.Go c) within a new knows = tt
event_holds s w n (event.Get c) within a new knows = tt
event_holds s w n (event.Reconnect c) within a new knows = tt

pub planned_holds : (s : Setup) (w : World) (n : ℕ) (e : Event) → Whole s w → FreshIn s w (planned s w e) → ((k : ℕ) → Knows s (partly_written s w k (planned s w e)))
    → PlannedHolds s w n e (planned s w e)
unfolding planned
planned_holds s w n e a new knows = by (in_range s e) refl new knows
  where
    by : (b : Bool) → in_range s e ≡ b → FreshIn s w (if b then planned_in s w e else None) → ((k : ℕ) → Knows s (partly_written s w k (if b then planned_in s w e else None)))
        → PlannedHolds s w n e (if b then planned_in s w e else None)
    by true within new knows = event_holds s w n e within a new knows
    by false within new knows = tt

-- ---- changes in memory are not seen

change_seen : (b : Broker) (c : Change) → seen (changed b c) ≡ seen b
change_seen b c = by c
  where
    subs : (f : Subscription → Subscription) → ((v : Subscription) → sub_seen (f v) ≡ sub_seen v) → seen (record b { subs = map f b.subs }) ≡ seen b
    subs f same = ap (λ vs. record (seen b) { subs = vs }) (seen_same f same b.subs)

    named : (n : List ℕ) (f : Subscription → Subscription) → ((v : Subscription) → sub_seen (f v) ≡ sub_seen v) → seen (record b { subs = map (at_name n f) b.subs }) ≡ seen b
    named n f same = subs (at_name n f) (λ v. on_if (λ (u : Subscription). sub_seen u ≡ sub_seen v) (bytes_eq v.name n) (f v) v (same v) refl)

    by : (c : Change) → seen (changed b c) ≡ seen b
    by (change.Attach n k) = named n (attached k) (λ v. refl)
    by (change.Detach k) = subs (detached k) (λ v. refl)
    by (change.Permit n k permits) = named n (permitted k permits) (λ v. refl)
    by (change.Skipped n i) = named n (skipped_index i) (λ v. refl)
    by (change.Given n i at) = named n (given i at) (λ v. refl)
    by (change.Cache n k) = named n (λ v. record v { cache = cached v.cache k }) (λ v. refl)
    by (change.Acked n) = named n after_acks (λ v. refl)
    by (change.Cleared n) = named n cleared (λ v. refl)
    by change.Forget = subs cleared (λ v. refl)
    by (change.Receiver x r) = refl
    by (change.Client k r) = refl
    by (change.Opening y) = refl
    by (change.Opened y) = refl
    by (change.Pend y i) = refl
    by (change.ReadTo y i) = refl
    by (change.Unpend y i) = refl
    by (change.Building o) = refl

pub changes_seen : (b : Broker) (cs : List Change) → seen (all_changed b cs) ≡ seen b
changes_seen b [] = refl
changes_seen b (c ∷ cs) = changes_seen (changed b c) cs ∙ change_seen b c

-- ---- one event

pub whole_take : (ws : List Write) → take (length ws) ws ≡ ws
whole_take [] = refl
whole_take (w ∷ ws) = ap (λ (l : List Write). w ∷ l) (whole_take ws)

-- its first line has the next number
pub begins : (s : Setup) (w : World) (rest : List Item) → audited_from_by strictness.Whole s (world_seen w) (Begins (w.events + 1) ∷ rest) ≡ audited_from_by strictness.Whole s (record { topics = map seen w.brokers; events = w.events + 1 }) rest
unfolding refused
begins s w rest =
    ap (λ (b : Bool). judged w.events (or_else (unless_broken 1 b None) None) (audited_from_by strictness.Whole s (record { topics = map seen w.brokers; events = w.events + 1 }) rest)) (eq-eqb (w.events + 1) (w.events + 1) refl)

-- and then so many of its writes, after which an audit sees what a broker's state that looks the same shows
pub told_planned : (s : Setup) (w : World) (e : Event) (p : Planned) (ws : List Write) (b' : Broker) → IsThere s p.topic p.cluster
    → length w.brokers ≡ length s.topics * length s.clusters
    → PlanHolds s w.brokers (w.events + 1) p.topic p.cluster (cause_of (topic_at s w p.topic p.cluster) e) (topic_at s w p.topic p.cluster) ws
    → seen b' ≡ seen (all_written s.per_ledger (topic_at s w p.topic p.cluster) ws)
    → audited_from_by strictness.Whole s (world_seen w) (Begins (w.events + 1) ∷ told_at p.topic p.cluster (acts_of (site s p.topic p.cluster) (cause_of (topic_at s w p.topic p.cluster) e) (topic_at s w p.topic p.cluster) ws))
    ≡ Ok (record { topics = map seen (slice_set w.brokers (node s p.topic p.cluster) b'); events = w.events + 1 })
told_planned s w e p ws b' there size holds same =
    let t = p.topic in let x = p.cluster in let b = topic_at s w t x in let k = mirror_number s t x in let n = w.events + 1 in
    let lt : k < length w.brokers = let l = node_lt s t x there in omega (arith, l, size) in
    let rest = told_at t x (acts_of (site s t x) (cause_of b e) b ws) in
    begins s w rest
    ∙ (ap (λ (bs : List Broker). audited_from_by strictness.Whole s (record { topics = map seen bs; events = n }) rest) (sym (same_set w.brokers k))
    ∙ (all_accepted s w.brokers n t x (cause_of b e) b ws lt holds
    ∙ ap (λ (ms : List Mirror). Ok (record { topics = ms; events = n }))
    (map-set seen w.brokers k (all_written s.per_ledger b ws) ∙ (ap (λ (m : Mirror). slice_set (map seen w.brokers) k m) (sym same) ∙ sym (map-set seen w.brokers k b')))))
