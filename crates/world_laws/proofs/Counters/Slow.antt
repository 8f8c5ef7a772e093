-- Plans and the numbers that rise with events. A slow plan raises the session of a replicator, the number of its next frame and the
-- count of a subscription's seeks by one at most; every plan is slow.
use Rattle.std.proofs.Common.{ℕ, zero, suc, ◌+◌, ◌≤◌, Bool, List, [], ◌∷◌, ◌++◌, map, arith}
use Rattle.std.specs.Prelude.{Option, None, is_some, not, take}
use Rattle.std.specs.Str.{bytes_eq}
use Rattle.world_laws.proofs.Types.{Change, Out, Packet, Position, SubKind, Write}
use Rattle.world_laws.proofs.Types.change
use Rattle.world_laws.proofs.Types.replicator_state
use Rattle.world_laws.proofs.Types.write
use Rattle.geo_base.specs.Broker.{Broker, Site, at_replicator, at_sub, changed, replicator_at, sub_named, written}
use Rattle.geo_base.specs.Cache.{cached}
use Rattle.geo_base.specs.Cursor.{below}
use Rattle.geo_base.specs.Dispatcher.{given, skipped_index}
use Rattle.geo_base.specs.Forwarding.{closes}
use Rattle.geo_base.specs.Plan.{Plan, all_changed, all_written, done, halted, idle_plan, plan_of, quiet_plan}
use Rattle.geo_base.specs.Planned.{Planned}
use Rattle.geo_base.specs.Seeking.{restart}
use Rattle.geo_base.specs.Replicator.{Replicator, new_replicator, replicator_reset, replicator_restarted, replicator_sent, without_number}
use Rattle.geo_base.specs.Serving.{session_becomes}
use Rattle.geo_base.specs.Setup.{Setup, declared_at}
use Rattle.geo_base.specs.Subscription.{Subscription, after_acks, attached, cleared, detached, new_subscription, permitted, with_acks}
use Rattle.geo_base.specs.World.{World, site, topic_at}
use Rattle.world_laws.specs.Within.{ReplicatorWithin, ReplicatorsWithin}
use Rattle.world_laws.proofs.Counters.Calm.{replicator_more}
use Rattle.world_laws.proofs.Replicating.Effects.{Each, each_both, each_map, each_take}
use Rattle.world_laws.proofs.Induction.Frames.{at_map, at_set}
use Rattle.world_laws.proofs.Merges.PeerWalk.{each_filter}
use Rattle.world_laws.proofs.Walks.Shapes.{Answered, Fated, Offers, Reads, Seeks, Served, Shape, Snaps, Taken, Updates}
use Rattle.world_laws.proofs.Dispatching.SubFrames.{at_name, each_to}
use Rattle.world_laws.proofs.Walks.Walk.{on_if}

abbrev pub SeeksAt : ℕ → Subscription → Type 0
SeeksAt n v = v.seeks ≤ n

-- no number of a broker is above a bound
pub record Below (n : ℕ) (b : Broker) : Type 0 where
  pub replicators : ReplicatorsWithin n b.replicators
  pub seeks : Each (SeeksAt n) b.subs

pub below_more : (n : ℕ) (b : Broker) → Below n b → Below (n + 1) b
below_more n b h = record {
  replicators = λ y. replicator_more n _ (h.replicators y);
  seeks = each_map (SeeksAt n) (SeeksAt (n + 1)) (λ v k. omega (arith, k)) b.subs h.seeks;
}

-- WRITES

-- a write that raises none
abbrev pub IsSteady : Write → Type 0
IsSteady (write.SessionNumber y n) = ⊥
IsSteady (write.Seek n i) = ⊥
IsSteady w = Unit {0}

-- what is done to the subscriptions of a name keeps a fact, where it keeps it of each
named_keeps : (P : Subscription → Type 0) (n : List ℕ) (f : Subscription → Subscription) → ((v : Subscription) → P v → P (f v)) → (vs : List Subscription) → Each P vs
    → Each P (map (at_name n f) vs)
named_keeps P n f k vs h = each_to P P (at_name n f) (λ v p. on_if P (bytes_eq v.name n) (f v) v (k v p) p) vs h

created_below : (per n : ℕ) (b : Broker) (name : List ℕ) (kind : SubKind) (replicated latest : Bool) → Below n b → Below n (written per b (write.Create name kind replicated latest))
created_below per n b name kind replicated latest h =
    on_if (Below n) (is_some (sub_named b.subs name)) b _ h (record {
      replicators = h.replicators;
      seeks = each_both (SeeksAt n) b.subs (new_subscription name kind replicated _ ∷ []) h.seeks (omega arith, tt);
    })

steady_one : (per n : ℕ) (b : Broker) (w : Write) → IsSteady w → Below n b → Below n (written per b w)
steady_one per n b (write.Append e) s h = record { replicators = h.replicators; seeks = h.seeks }
steady_one per n b (write.Create name kind replicated latest) s h = created_below per n b name kind replicated latest h
steady_one per n b (write.Alter name kind replicated) s h = record {
  replicators = h.replicators;
  seeks = named_keeps (SeeksAt n) name (λ v. record v { kind = kind; replicated = replicated }) (λ v k. k) b.subs h.seeks;
}
steady_one per n b (write.Delete name) s h = record {
  replicators = h.replicators;
  seeks = each_filter (SeeksAt n) (λ (v : Subscription). not (bytes_eq v.name name)) b.subs h.seeks;
}
steady_one per n b (write.Acks name is) s h = record { replicators = h.replicators; seeks = named_keeps (SeeksAt n) name (with_acks is) (λ v k. k) b.subs h.seeks }
steady_one per n b (write.ReplicatorAck y i) s h = record {
  replicators = λ z. at_set (ReplicatorWithin n) b.replicators y z _ new_replicator (λ _. record { session = (h.replicators y).session; next = (h.replicators y).next }) (h.replicators z);
  seeks = h.seeks;
}
steady_one per n b write.Ledger s h = record { replicators = h.replicators; seeks = h.seeks }
steady_one per n b (write.Seek name i) s h = absurd s
steady_one per n b (write.SessionNumber y m) s h = absurd s

steady_written : (per n : ℕ) (b : Broker) (ws : List Write) → Each IsSteady ws → Below n b → Below n (all_written per b ws)
steady_written per n b [] s h = h
steady_written per n b (w ∷ ws) s h = steady_written per n (written per b w) ws s.1 (steady_one per n b w s.0 h)

-- slow: none is raised, or one by the first write
pub data SlowWrites (b : Broker) : List Write → Type 0 where
  Steady : (ws : List Write) → Each IsSteady ws → SlowWrites b ws
  Begins : (y : ℕ) (ws : List Write) → Each IsSteady ws → SlowWrites b (write.SessionNumber y ((replicator_at b y).session + 1) ∷ ws)
  Sets : (n : List ℕ) (i : ℕ) (ws : List Write) → Each IsSteady ws → SlowWrites b (write.Seek n i ∷ ws)

slow_written : (per n : ℕ) (b : Broker) (ws : List Write) → SlowWrites b ws → Below n b → Below (n + 1) (all_written per b ws)
slow_written per n b _ (Steady ws s) h = steady_written per (n + 1) b ws s (below_more n b h)
slow_written per n b _ (Begins y ws s) h =
    steady_written per (n + 1) (written per b (write.SessionNumber y ((replicator_at b y).session + 1))) ws s (record {
      replicators = λ z. at_set (ReplicatorWithin (n + 1)) b.replicators y z _ new_replicator
          (λ _. record { session = omega (arith, (h.replicators y).session); next = omega (arith, (h.replicators y).next) }) (replicator_more n _ (h.replicators z));
      seeks = (below_more n b h).seeks;
    })
slow_written per n b _ (Sets name i ws s) h =
    steady_written per (n + 1) (written per b (write.Seek name i)) ws s (record {
      replicators = (below_more n b h).replicators;
      seeks = each_to (SeeksAt n) (SeeksAt (n + 1)) (at_name name (λ v. record v { cursor = below i; seeks = v.seeks + 1 }))
          (λ v k. on_if (SeeksAt (n + 1)) (bytes_eq v.name name) _ v (omega (arith, k)) (omega (arith, k))) b.subs h.seeks;
    })

-- a beginning of such writes, and a new ledger
slow_stopped : (b : Broker) (k : ℕ) (ws : List Write) → SlowWrites b ws → SlowWrites b (take k ws ++ write.Ledger ∷ [])
slow_stopped b k _ (Steady ws s) = Steady _ (each_both IsSteady (take k ws) (write.Ledger ∷ []) (each_take IsSteady k ws s) (tt, tt))
slow_stopped b zero _ (Begins y ws s) = Steady _ (tt, tt)
slow_stopped b (suc k) _ (Begins y ws s) = Begins y _ (each_both IsSteady (take k ws) (write.Ledger ∷ []) (each_take IsSteady k ws s) (tt, tt))
slow_stopped b zero _ (Sets n i ws s) = Steady _ (tt, tt)
slow_stopped b (suc k) _ (Sets n i ws s) = Sets n i _ (each_both IsSteady (take k ws) (write.Ledger ∷ []) (each_take IsSteady k ws s) (tt, tt))

-- CHANGES

-- a change that sends no entry
abbrev pub IsStill : Change → Type 0
IsStill (change.Pend y i) = ⊥
IsStill c = Unit {0}

replicator_below : (n : ℕ) (b : Broker) (y : ℕ) (f : Replicator → Replicator) → ((v : Replicator) → ReplicatorWithin n v → ReplicatorWithin n (f v)) → Below n b → Below n (at_replicator b y f)
replicator_below n b y f k h = record {
  replicators = λ z. at_set (ReplicatorWithin n) b.replicators y z (f (replicator_at b y)) new_replicator (λ _. k (replicator_at b y) (h.replicators y)) (h.replicators z);
  seeks = h.seeks;
}

named_below : (n : ℕ) (b : Broker) (name : List ℕ) (f : Subscription → Subscription) → ((v : Subscription) → SeeksAt n v → SeeksAt n (f v)) → Below n b → Below n (at_sub b name f)
named_below n b name f k h = record { replicators = h.replicators; seeks = named_keeps (SeeksAt n) name f k b.subs h.seeks }

still_one : (n : ℕ) (b : Broker) (c : Change) → IsStill c → Below n b → Below n (changed b c)
still_one n b (change.Receiver x session) s h = record { replicators = h.replicators; seeks = h.seeks }
still_one n b (change.Client c session) s h = record { replicators = h.replicators; seeks = h.seeks }
still_one n b (change.Attach name k) s h = named_below n b name (attached k) (λ v p. p) h
still_one n b (change.Detach c) s h = record { replicators = h.replicators; seeks = each_to (SeeksAt n) (SeeksAt n) (detached c) (λ v p. p) b.subs h.seeks }
still_one n b (change.Permit name c permits) s h = named_below n b name (permitted c permits) (λ v p. p) h
still_one n b (change.Skipped name i) s h = named_below n b name (skipped_index i) (λ v p. p) h
still_one n b (change.Given name i at) s h = named_below n b name (given i at) (λ v p. p) h
still_one n b (change.Cache name snapshot) s h = named_below n b name (λ v. record v { cache = cached v.cache snapshot }) (λ v p. p) h
still_one n b (change.Acked name) s h = named_below n b name after_acks (λ v p. p) h
still_one n b (change.Cleared name) s h = named_below n b name cleared (λ v p. p) h
still_one n b (change.Opening y) s h = replicator_below n b y replicator_reset (λ v p. record { session = p.session; next = omega arith }) h
still_one n b (change.Opened y) s h = replicator_below n b y (λ v. record v { state = replicator_state.Open }) (λ v p. record { session = p.session; next = p.next }) h
still_one n b (change.Pend y i) s h = absurd s
still_one n b (change.ReadTo y i) s h = replicator_below n b y (λ v. record v { read_index = i }) (λ v p. record { session = p.session; next = p.next }) h
still_one n b (change.Unpend y m) s h = replicator_below n b y (λ v. record v { pending = without_number v.pending m }) (λ v p. record { session = p.session; next = p.next }) h
still_one n b (change.Building o) s h = record { replicators = h.replicators; seeks = h.seeks }
still_one n b change.Forget s h = record {
  replicators = λ z. at_map (ReplicatorWithin n) replicator_restarted (λ v w. record { session = w.session; next = omega arith }) b.replicators z new_replicator
      (record { session = omega arith; next = omega arith }) (h.replicators z);
  seeks = each_to (SeeksAt n) (SeeksAt n) cleared (λ v p. p) b.subs h.seeks;
}

still_changed : (n : ℕ) (b : Broker) (cs : List Change) → Each IsStill cs → Below n b → Below n (all_changed b cs)
still_changed n b [] s h = h
still_changed n b (c ∷ cs) s h = still_changed n (changed b c) cs s.1 (still_one n b c s.0 h)

-- PLANS

pub data Slow (b : Broker) : Plan → Type 0 where
  Still : (p : Plan) → SlowWrites b p.writes → Each IsStill p.changes → Slow b p
  Sends : (y i : ℕ) (os : List Out) → Slow b (plan_of [] (change.Pend y i ∷ []) os)

pub slow_done : (per n : ℕ) (b : Broker) (p : Plan) → Slow b p → Below n b → Below (n + 1) (done per b p)
slow_done per n b _ (Still p ws cs) h = still_changed (n + 1) (all_written per b p.writes) p.changes cs (slow_written per n b p.writes ws h)
slow_done per n b _ (Sends y i os) h = record {
  replicators = λ z. at_set (ReplicatorWithin (n + 1)) b.replicators y z (replicator_sent i (replicator_at b y)) new_replicator
      (λ _. record { session = omega (arith, (h.replicators y).session); next = omega (arith, (h.replicators y).next) }) (replicator_more n _ (h.replicators z));
  seeks = (below_more n b h).seeks;
}

slow_writes : (b : Broker) (p : Plan) → Slow b p → SlowWrites b p.writes
slow_writes b _ (Still p ws cs) = ws
slow_writes b _ (Sends y i os) = Steady _ tt

-- after a stop
pub slow_halted : (per n : ℕ) (b : Broker) (k : ℕ) (p : Plan) → Slow b p → Below n b → Below (n + 1) (halted per b k p)
slow_halted per n b k p s h =
    let ws = take k p.writes ++ write.Ledger ∷ [] in
    still_one (n + 1) (all_written per b ws) change.Forget tt (slow_written per n b ws (slow_stopped b k p.writes (slow_writes b p s)) h)

-- EVENTS

-- a plan that raises none
record IsQuiet (p : Plan) : Type 0 where
  writes : Each IsSteady p.writes
  changes : Each IsStill p.changes

quiet : (p : Plan) → Each IsSteady p.writes → Each IsStill p.changes → IsQuiet p
quiet p ws cs = record { writes = ws; changes = cs }

slow : (b : Broker) (p : Plan) → IsQuiet p → Slow b p
slow b p q = Slow.Still p (SlowWrites.Steady p.writes q.writes) q.changes

updates_steady : (h : Site) (b : Broker) (v : Subscription) (ws : List Write) → Updates h b v ws → Each IsSteady ws
updates_steady h b v ws Updates.NoUpdate = tt
updates_steady h b v ws (Updates.Update cut replicated passed) = (tt, tt)

served_quiet : (h : Site) (b : Broker) (c : ℕ) (p : Packet) (q : Plan) → Served h b c p q → IsQuiet q
served_quiet h b c p q (Served.Acknowledges s id kind ps v i is ws at sent by of after) = quiet q (tt, updates_steady h b _ ws after) (tt, tt)
served_quiet h b c p q (Served.Stores s id seq source e at sound new) = quiet q (tt, tt) tt
served_quiet h b c p q Served.Ignores = quiet q tt tt
served_quiet h b c p q Served.Disconnects = quiet q tt (tt, (tt, tt))
served_quiet h b c p q (Served.Connects s is new) = quiet q tt (tt, (tt, tt))
served_quiet h b c p q (Served.Answers s f at) = quiet q tt tt
served_quiet h b c p q (Served.ChangesProducers s ps f at) = quiet q tt (tt, tt)
served_quiet h b c p q (Served.Repeats s id seq source e at sound old) = quiet q tt tt
served_quiet h b c p q (Served.Creates s topic n kind id request consumer earliest replicated at is may named) = quiet q (tt, tt) (tt, tt)
served_quiet h b c p q (Served.Joins s topic n kind id request consumer earliest replicated v at is may named free same) = quiet q tt (tt, tt)
served_quiet h b c p q (Served.Alters s topic n kind id request consumer earliest replicated v at is may named free other) = quiet q (tt, tt) (tt, tt)
served_quiet h b c p q (Served.Permits s id permits v at is by) = quiet q tt (tt, tt)
served_quiet h b c p q (Served.Unsubscribes s id request v at is by last) = quiet q (tt, tt) tt
served_quiet h b c p q (Served.ClosesConsumer s id request v at is by) = quiet q tt (tt, tt)

taken_quiet : (h : Site) (b : Broker) (x : ℕ) (p : Packet) (q : Plan) → Taken h b x p q → IsQuiet q
taken_quiet h b x p q (Taken.Stores id seq source e is at may new) = quiet q (tt, tt) tt
taken_quiet h b x p q (Taken.Unreadable is) = quiet q tt (tt, tt)
taken_quiet h b x p q (Taken.Opens topic id request name is opening) = quiet q tt (tt, tt)
taken_quiet h b x p q (Taken.Discards other shut) = quiet q tt tt
taken_quiet h b x p q (Taken.Refuses other at may) = quiet q tt (tt, tt)
taken_quiet h b x p q (Taken.Repeats id seq source e is at may old) = quiet q tt tt

answered_quiet : (b : Broker) (y : ℕ) (p : Packet) (q : Plan) → Answered b y p q → IsQuiet q
answered_quiet b y p q (Answered.Stale other) = quiet q tt tt
answered_quiet b y p q (Answered.Other at other) = quiet q tt tt
answered_quiet b y p q (Answered.Opened request name at is state) = quiet q tt (tt, tt)
answered_quiet b y p q (Answered.OpenBefore request name at is state) = quiet q tt tt
answered_quiet b y p q (Answered.ClosedBefore request name at is state) = quiet q tt tt
answered_quiet b y p q (Answered.Received id n i position at is pending) = quiet q (tt, tt) (tt, tt)
answered_quiet b y p q (Answered.ReceivedBefore id n position at is pending) = quiet q tt tt

fated_quiet : (per : ℕ) (b : Broker) (Acts : Broker → Plan → Type 0) (lost : Plan) (q : Plan)
    → ((c : Broker) (p : Plan) → Acts c p → IsQuiet p) → IsQuiet lost → Fated per b Acts lost q → IsQuiet q
fated_quiet per b Acts lost q f l (Fated.Once p a) = f b p a
fated_quiet per b Acts lost q f l Fated.Lost = l
fated_quiet per b Acts lost q f l (Fated.Twice p p' a a') =
    let one = f b p a in let two = f (done per b p) p' a' in
    quiet q (each_both IsSteady p.writes p'.writes one.writes two.writes) (each_both IsStill p.changes p'.changes one.changes two.changes)

reads_slow : (h : Site) (b : Broker) (y : ℕ) (q : Plan) → Reads h b y q → Slow b q
reads_slow h b y q (Reads.Forwards i e next out) = Slow.Sends y i _
reads_slow h b y q Reads.NothingToRead = slow b q (quiet q tt tt)
reads_slow h b y q (Reads.Skips i e next other) = slow b q (quiet q (tt, tt) (tt, tt))
reads_slow h b y q (Reads.Responds i e id source next of is) = slow b q (quiet q (tt, (tt, tt)) (tt, tt))
reads_slow h b y q (Reads.Counts i e id answer u u' next is heard) = slow b q (quiet q (tt, tt) (tt, (tt, tt)))
reads_slow h b y q (Reads.AsksAgain i e id answer u u' next is heard) = slow b q (quiet q (tt, (tt, tt)) (tt, (tt, tt)))
reads_slow h b y q (Reads.Completes i e id answer u u' next is heard) = slow b q (quiet q (tt, (tt, tt)) (tt, (tt, tt)))
reads_slow h b y q (Reads.CreatesAt i j e name remote next is named) = slow b q (quiet q (tt, (tt, (tt, tt))) (tt, (tt, tt)))
reads_slow h b y q (Reads.ActsOnUpdate i j e name remote v ws next is named after) =
    slow b q (quiet q (tt, each_both IsSteady ws (write.ReplicatorAck y i ∷ []) (updates_steady h b _ ws after) (tt, tt)) (tt, (tt, tt)))

snaps_quiet : (h : Site) (b : Broker) (q : Plan) → Snaps h b q → IsQuiet q
snaps_quiet h b q Snaps.NothingToAsk = quiet q tt tt
snaps_quiet h b q (Snaps.Asks any none) = quiet q (tt, tt) (tt, tt)

offers_quiet : (h : Site) (b : Broker) (n : List ℕ) (q : Plan) → Offers h b n q → IsQuiet q
offers_quiet h b n q Offers.NothingToOffer = quiet q tt tt
offers_quiet h b n q (Offers.Gives v i at e due is picked) = quiet q tt (tt, tt)
offers_quiet h b n q (Offers.SkipsMarker v i e ws due is after) = quiet q (tt, updates_steady h b _ ws after) (tt, (tt, tt))
offers_quiet h b n q (Offers.Caches v i j e c ws due is after) = quiet q (tt, updates_steady h b _ ws after) (tt, (tt, (tt, tt)))

seeks_slow : (h : Site) (b : Broker) (n : List ℕ) (to : Option Position) (q : Plan) → Seeks h b n to q → Slow b q
seeks_slow h b n to q Seeks.NothingToSeek = slow b q (quiet q tt tt)
seeks_slow h b n to q (Seeks.SeeksTo v i ws named at after) = Slow.Still q (SlowWrites.Sets v.name i ws (updates_steady h b _ ws after)) (tt, tt)

restart_quiet : IsQuiet restart
unfolding restart
restart_quiet = record { writes = (tt, tt); changes = (tt, tt) }

pub restart_slow : (b : Broker) → Slow b restart
restart_slow b = slow b restart restart_quiet

-- whatever an event does
pub shape_slow : (s : Setup) (w : World) (p : Planned) → Shape s w p → Slow (topic_at s w p.topic p.cluster) p.plan
shape_slow s w p (Shape.Reset t x y within remote) = Slow.Still _ (SlowWrites.Begins y [] tt) (tt, tt)
shape_slow s w p (Shape.Read t x y plan within reads) = reads_slow _ _ y plan reads
shape_slow s w p (Shape.Idle t x within) = slow (topic_at s w t x) idle_plan (quiet idle_plan tt tt)
shape_slow s w p (Shape.Empty t x k within next) = slow (topic_at s w t x) idle_plan (quiet idle_plan tt tt)
shape_slow s w p (Shape.Serve x c q plan within next served) = slow _ plan (served_quiet _ _ c q plan served)
shape_slow s w p (Shape.Drop x c v within at) =
    slow (topic_at s w (declared_at s c).topic x) (quiet_plan (session_becomes c None)) (quiet (quiet_plan (session_becomes c None)) tt (tt, (tt, tt)))
shape_slow s w p (Shape.Take t x y q plan within next taken) =
    slow _ plan (fated_quiet s.per_ledger _ (λ b. Taken (site s t y) b x q) (closes x) plan (λ b p taken. taken_quiet (site s t y) b x q p taken) (quiet (closes x) tt (tt, tt)) taken)
shape_slow s w p (Shape.Receipt t x y q plan within next answered) =
    slow _ plan
    (fated_quiet s.per_ledger _ (λ b. Answered b y q) (quiet_plan []) plan (λ b p answered. answered_quiet b y q p answered) (quiet (quiet_plan []) tt tt) answered)
shape_slow s w p (Shape.Snap t x plan within snaps) = slow _ plan (snaps_quiet _ _ plan snaps)
shape_slow s w p (Shape.Offer t x m plan within offers) = slow _ plan (offers_quiet _ _ _ plan offers)
shape_slow s w p (Shape.Seek t x m to plan within seeks) = seeks_slow _ _ _ to plan seeks
shape_slow s w p (Shape.Restart t x within) = restart_slow (topic_at s w t x)
