-- Cursors ascend: each index stands once in them, in order.
use Rattle.std.proofs.Common.{ℕ, zero, suc, Bool, List, [], ◌∷◌, length, map, arith, subst}
use Rattle.std.specs.Prelude.{if◌then◌else◌, is_some, not, replicate, slice_index_or, slice_set}
use Rattle.std.specs.Str.{bytes_eq}
use Rattle.std.proofs.lemmas.List.{append-nil}
use Rattle.world_laws.proofs.Types.{Change, Write}
use Rattle.world_laws.proofs.Types.change
use Rattle.world_laws.proofs.Types.replicator_state
use Rattle.world_laws.proofs.Types.write
use Rattle.geo_base.specs.Broker.{Broker, at_replicator, changed, new_broker, replicator_at, sub_named, written}
use Rattle.geo_base.specs.Cache.{cached}
use Rattle.geo_base.specs.Cursor.{below, with_index}
use Rattle.geo_base.specs.Dispatcher.{given, skipped_index}
use Rattle.geo_base.specs.Replicator.{Replicator, new_replicator, replicator_reset, replicator_restarted, replicator_sent, without_number}
use Rattle.geo_base.specs.Subscription.{Subscription, after_acks, attached, cleared, detached, new_subscription, permitted, sought, with_acks}
use Rattle.cursor_acks.proofs.Sets.{Rising, rising_range, rising_with_index, rising_with_indexes}
use Rattle.world_laws.proofs.Replicating.Effects.{Each, each_both}
use Rattle.world_laws.proofs.Merges.PeerWalk.{each_filter}
use Rattle.world_laws.proofs.Dispatching.SubFrames.{at_name, each_to}
use Rattle.world_laws.proofs.Walks.Walk.{on_if}

-- ---- lists

pub each_set : {X : Type 0} (P : X → Type 0) (xs : List X) (k : ℕ) (v : X) → P v → Each P xs → Each P (slice_set xs k v)
each_set P [] k v p h = tt
each_set P (x ∷ xs) zero v p h = (p, h.1)
each_set P (x ∷ xs) (suc k) v p h = (h.0, each_set P xs k v p h.1)

pub each_or : {X : Type 0} (P : X → Type 0) (xs : List X) (k : ℕ) (d : X) → P d → Each P xs → P (slice_index_or xs k d)
each_or P [] k d p h = p
each_or P (x ∷ xs) zero d p h = h.0
each_or P (x ∷ xs) (suc k) d p h = each_or P xs k d p h.1

pub each_copies : {X : Type 0} (P : X → Type 0) (n : ℕ) (x : X) → P x → Each P (replicate n x)
each_copies P zero x p = tt
each_copies P (suc n) x p = (p, each_copies P n x p)

-- ---- what is written

abbrev pub SubAscends : Subscription → Type 0
SubAscends v = Rising 0 v.cursor

abbrev pub ReplicatorAscends : Replicator → Type 0
ReplicatorAscends v = Rising 0 v.cursor

pub record HasCursors (b : Broker) : Type 0 where
  pub subs : Each SubAscends b.subs
  pub replicators : Each ReplicatorAscends b.replicators

rising_below : (n : ℕ) → Rising 0 (below n)
rising_below n = subst (Rising 0) (append-nil (below n)) (rising_range 0 0 n [] (omega arith) tt)

rising_new : (latest : Bool) (n : ℕ) → Rising 0 (if latest then below n else [])
rising_new latest n = on_if (Rising 0) latest (below n) [] (rising_below n) tt

named_ascends : (n : List ℕ) (f : Subscription → Subscription) → ((v : Subscription) → SubAscends v → SubAscends (f v)) → (v : Subscription) → SubAscends v → SubAscends (at_name n f v)
named_ascends n f k v h = on_if SubAscends (bytes_eq v.name n) (f v) v (k v h) h

at_subs : (b : Broker) (n : List ℕ) (f : Subscription → Subscription) → ((v : Subscription) → SubAscends v → SubAscends (f v)) → Each SubAscends b.subs → Each SubAscends (map (at_name n f) b.subs)
at_subs b n f k h = each_to SubAscends SubAscends (at_name n f) (named_ascends n f k) b.subs h

at_replicators : (b : Broker) (y : ℕ) (f : Replicator → Replicator) → ((v : Replicator) → ReplicatorAscends v → ReplicatorAscends (f v)) → Each ReplicatorAscends b.replicators → Each ReplicatorAscends (at_replicator b y f).replicators
at_replicators b y f k h = each_set ReplicatorAscends b.replicators y (f (replicator_at b y)) (k (replicator_at b y) (each_or ReplicatorAscends b.replicators y new_replicator tt h)) h

pub written_cursors : (per : ℕ) (b : Broker) (w : Write) → HasCursors b → HasCursors (written per b w)
written_cursors per b (write.Create n kind replicated latest) h =
    on_if HasCursors (is_some (sub_named b.subs n)) b _ h
    (record { subs = each_both SubAscends b.subs (new_subscription n kind replicated (if latest then below (length b.entries) else []) ∷ []) h.subs (rising_new latest (length b.entries), tt); replicators = h.replicators })
written_cursors per b (write.Alter n kind replicated) h = record { subs = at_subs b n (λ s. record s { kind = kind; replicated = replicated }) (λ v k. k) h.subs; replicators = h.replicators }
written_cursors per b (write.Delete n) h = record { subs = each_filter SubAscends (λ (s : Subscription). not (bytes_eq s.name n)) b.subs h.subs; replicators = h.replicators }
written_cursors per b (write.Acks n is) h = record { subs = at_subs b n (with_acks is) (λ v k. rising_with_indexes v.cursor is k) h.subs; replicators = h.replicators }
written_cursors per b (write.Seek n i) h = record { subs = at_subs b n (sought i) (λ v k. rising_below i) h.subs; replicators = h.replicators }
written_cursors per b (write.ReplicatorAck y i) h =
    record { subs = h.subs; replicators = at_replicators b y (λ s. record s { cursor = with_index s.cursor i }) (λ v k. rising_with_index 0 v.cursor i k (omega arith)) h.replicators }
written_cursors per b (write.SessionNumber y n) h = record { subs = h.subs; replicators = at_replicators b y (λ s. record s { session = n }) (λ v k. k) h.replicators }
written_cursors per b (write.Append e) h = record { subs = h.subs; replicators = h.replicators }
written_cursors per b write.Ledger h = record { subs = h.subs; replicators = h.replicators }

pub changed_cursors : (b : Broker) (c : Change) → HasCursors b → HasCursors (changed b c)
changed_cursors b (change.Attach n k) h = record { subs = at_subs b n (attached k) (λ v p. p) h.subs; replicators = h.replicators }
changed_cursors b (change.Detach c) h = record { subs = each_to SubAscends SubAscends (detached c) (λ v p. p) b.subs h.subs; replicators = h.replicators }
changed_cursors b (change.Permit n c permits) h = record { subs = at_subs b n (permitted c permits) (λ v p. p) h.subs; replicators = h.replicators }
changed_cursors b (change.Skipped n i) h = record { subs = at_subs b n (skipped_index i) (λ v p. p) h.subs; replicators = h.replicators }
changed_cursors b (change.Given n i at) h = record { subs = at_subs b n (given i at) (λ v p. p) h.subs; replicators = h.replicators }
changed_cursors b (change.Cache n c) h = record { subs = at_subs b n (λ s. record s { cache = cached s.cache c }) (λ v p. p) h.subs; replicators = h.replicators }
changed_cursors b (change.Acked n) h = record { subs = at_subs b n after_acks (λ v p. p) h.subs; replicators = h.replicators }
changed_cursors b (change.Cleared n) h = record { subs = at_subs b n cleared (λ v p. p) h.subs; replicators = h.replicators }
changed_cursors b (change.Opening y) h = record { subs = h.subs; replicators = at_replicators b y replicator_reset (λ v p. p) h.replicators }
changed_cursors b (change.Opened y) h = record { subs = h.subs; replicators = at_replicators b y (λ s. record s { state = replicator_state.Open }) (λ v p. p) h.replicators }
changed_cursors b (change.Pend y i) h = record { subs = h.subs; replicators = at_replicators b y (replicator_sent i) (λ v p. p) h.replicators }
changed_cursors b (change.ReadTo y i) h = record { subs = h.subs; replicators = at_replicators b y (λ s. record s { read_index = i }) (λ v p. p) h.replicators }
changed_cursors b (change.Unpend y n) h = record { subs = h.subs; replicators = at_replicators b y (λ s. record s { pending = without_number s.pending n }) (λ v p. p) h.replicators }
changed_cursors b change.Forget h = record { subs = each_to SubAscends SubAscends cleared (λ v p. p) b.subs h.subs; replicators = each_to ReplicatorAscends ReplicatorAscends replicator_restarted (λ v p. p) b.replicators h.replicators }
changed_cursors b (change.Receiver x r) h = record { subs = h.subs; replicators = h.replicators }
changed_cursors b (change.Client c r) h = record { subs = h.subs; replicators = h.replicators }
changed_cursors b (change.Building u) h = record { subs = h.subs; replicators = h.replicators }

pub new_cursors : (clusters clients : ℕ) → HasCursors (new_broker clusters clients)
new_cursors clusters clients = record { subs = tt; replicators = each_copies ReplicatorAscends clusters new_replicator tt }
