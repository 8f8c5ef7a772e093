-- The indexes that a broker keeps are those of stored entries: whatever an event writes and changes leaves it so.
use Rattle.std.proofs.Common.{◌≡◌, ℕ, zero, suc, ◌+◌, ◌<◌, ◌≤◌, Bool, List, [], ◌∷◌, ◌++◌, length, refl, sym, ap, subst, ◌==◌, inl, inr, arith}
use Rattle.std.specs.Prelude.{Option, Some, None, if◌then◌else◌, is_some, not, nat_lt, slice_get, take}
use Rattle.std.specs.Str.{bytes_eq}
use Rattle.std.proofs.lemmas.Bool.{eq-eqb, false≢true}
use Rattle.std.proofs.lemmas.Bool.Decides.{nat_tests}
use Rattle.std.proofs.lemmas.List.{length_push}
use Rattle.std.proofs.lemmas.Option.{none-some, same_Some}
use Rattle.world_laws.proofs.Types.{AckKind, Change, Entry, Packet, Pending, Position, SubKind, Write}
use Rattle.world_laws.proofs.Types.ack_kind
use Rattle.world_laws.proofs.Types.change
use Rattle.world_laws.proofs.Types.replicator_state
use Rattle.world_laws.proofs.Types.write
use Rattle.geo_base.specs.Acknowledging.{acked_indexes, allows_cumulative, cumulative_indexes, stored_indexes, up_to, with_stored}
use Rattle.geo_base.specs.Broker.{Broker, Site, at_replicator, at_sub, changed, replicator_at, sub_named, written}
use Rattle.geo_base.specs.Cache.{cached}
use Rattle.geo_base.specs.Cursor.{below, has, with_index, with_indexes}
use Rattle.geo_base.specs.Dispatcher.{given, skipped_index}
use Rattle.geo_base.specs.Forwarding.{closes}
use Rattle.geo_base.specs.Plan.{Plan, all_changed, all_written, done, halted, idle_plan, quiet_plan}
use Rattle.geo_base.specs.Planned.{Planned}
use Rattle.geo_base.specs.Seeking.{restart, seek_index}
use Rattle.geo_base.specs.Replicator.{Replicator, new_replicator, pending_index, replicator_reset, replicator_restarted, replicator_sent, without_number}
use Rattle.geo_base.specs.Serving.{session_becomes}
use Rattle.geo_base.specs.Setup.{Setup, declared_at}
use Rattle.geo_base.specs.Subscription.{Subscription, after_acks, attached, cleared, detached, new_subscription, permitted, sought, with_acks}
use Rattle.geo_base.specs.Topic.{grown, index_of, last_length}
use Rattle.geo_base.specs.Updating.{updated_indexes, is_updated}
use Rattle.geo_base.specs.World.{World, topic_at}
use Rattle.world_laws.specs.Indexes.{AreBelow}
use Rattle.world_laws.proofs.OnceInOrder.Appends.{changed_entries}
use Rattle.world_laws.proofs.Replicating.Cursors.{either, has_less, or_left, or_right}
use Rattle.world_laws.proofs.Replicating.Effects.{Each, each_both, each_map, each_take}
use Rattle.world_laws.proofs.Induction.Frames.{at_map, at_set}
use Rattle.world_laws.proofs.TopicOrder.Ledgers.{of_index, total, total_grown, total_opened}
use Rattle.world_laws.proofs.Telling.OnlyTold.{has_below}
use Rattle.world_laws.proofs.Merges.PeerWalk.{each_filter}
use Rattle.world_laws.proofs.Walks.Shapes.{Answered, Fated, Offers, Reads, Seeks, Served, Shape, Snaps, Taken, Updates}
use Rattle.world_laws.proofs.Dispatching.SubFrames.{at_name, each_to}
use Rattle.world_laws.proofs.Walks.Walk.{on_if}

-- SETS

pub wider : (n m : ℕ) (set : List ℕ) → n ≤ m → AreBelow n set → AreBelow m set
wider n m set le h i k = let lt = h i k in omega (arith, le, lt)

pub none_below : (n : ℕ) → AreBelow n []
none_below n i k = absurd (false≢true k)

one_below : (n i : ℕ) (is : List ℕ) → i < n → AreBelow n is → AreBelow n (i ∷ is)
one_below n i is lt h j k = elim (either (i == j) (has is j) k) [ inl e ↦ grind (arith, nat_tests, e, lt) | inr m ↦ h j m ]

with_one : (n : ℕ) (set : List ℕ) (i : ℕ) → i < n → AreBelow n set → AreBelow n (with_index set i)
with_one n set i lt h j k = elim (has_less set i j k) [ inl e ↦ omega (arith, lt, e) | inr m ↦ h j m ]

with_all : (n : ℕ) (set is : List ℕ) → AreBelow n is → AreBelow n set → AreBelow n (with_indexes set is)
with_all n set [] k h = h
with_all n set (i ∷ is) k h =
    with_all n (with_index set i) is (λ j m. k j (or_right (i == j) (has is j) m)) (with_one n set i (k i (or_left (i == i) (has is i) (eq-eqb i i refl))) h)

all_below : (n m : ℕ) → m ≤ n → AreBelow n (below m)
all_below n m le i k = let lt = has_below m i k in omega (arith, le, lt)

-- what ledgers count to

counts_to : (n : ℕ) (ls : List ℕ) (p : Position) (i : ℕ) → total ls ≤ n → index_of ls p ≡ Some i → i < n
counts_to n ls p i le h = let lt = (of_index ls p i h).within in omega (arith, le, lt)

with_below : (n : ℕ) (o : Option ℕ) (is : List ℕ) → ((i : ℕ) → o ≡ Some i → i < n) → AreBelow n is → AreBelow n (with_stored o is)
with_below n None is k h = h
with_below n (Some i) is k h = one_below n i is (k i refl) h

stored_below : (n : ℕ) (ls : List ℕ) (ps : List Position) → total ls ≤ n → AreBelow n (stored_indexes ls ps)
stored_below n ls [] le = none_below n
stored_below n ls (p ∷ ps) le = with_below n (index_of ls p) (stored_indexes ls ps) (λ i. counts_to n ls p i le) (stored_below n ls ps le)

up_to_below : (n : ℕ) (o : Option ℕ) → ((i : ℕ) → o ≡ Some i → i < n) → AreBelow n (up_to o)
up_to_below n None k = none_below n
up_to_below n (Some i) k = let lt = k i refl in all_below n (i + 1) (omega (arith, lt))

cumulative_below : (n : ℕ) (ls : List ℕ) (ps : List Position) → total ls ≤ n → AreBelow n (cumulative_indexes ls ps)
cumulative_below n ls [] le = none_below n
cumulative_below n ls (p ∷ []) le = up_to_below n (index_of ls p) (λ i. counts_to n ls p i le)
cumulative_below n ls (p ∷ q ∷ ps) le = none_below n

acked_below : (n : ℕ) (ls : List ℕ) (kind : SubKind) (ps : List Position) (by : AckKind) → total ls ≤ n → AreBelow n (acked_indexes ls kind ps by)
acked_below n ls kind ps ack_kind.Individual le = stored_below n ls ps le
acked_below n ls kind ps ack_kind.Cumulative le = on_if (AreBelow n) (allows_cumulative kind) _ _ (cumulative_below n ls ps le) (none_below n)

passed_below : (y k m : ℕ) (es : List Entry) → AreBelow (k + length es) (updated_indexes y k m es)
passed_below y k zero es = none_below (k + length es)
passed_below y k (suc m) [] = none_below (k + 0)
passed_below y k (suc m) (e ∷ es) =
    let later : AreBelow (k + length (e ∷ es)) (updated_indexes y (k + 1) m es) = wider (k + 1 + length es) (k + length (e ∷ es)) _ (omega arith) (passed_below y (k + 1) m es) in
    on_if (AreBelow (k + length (e ∷ es))) (is_updated y e) _ _ (one_below (k + length (e ∷ es)) k _ (omega arith) later) later

over_below : (y m : ℕ) (es : List Entry) → AreBelow (length es) (updated_indexes y 0 m es)
over_below y m es = wider (0 + length es) (length es) _ (omega arith) (passed_below y 0 m es)

-- BROKERS

abbrev pub SubBelow : ℕ → Subscription → Type 0
SubBelow n v = AreBelow n v.cursor

abbrev pub PendingBelow : ℕ → Pending → Type 0
PendingBelow n p = p.index < n

pub record ReplicatorBelow (n : ℕ) (v : Replicator) : Type 0 where
  pub acked : AreBelow n v.cursor
  pub pending : Each (PendingBelow n) v.pending

pub record Stocked (b : Broker) : Type 0 where
  pub ledgers : total b.ledgers ≤ length b.entries
  pub subs : Each (SubBelow (length b.entries)) b.subs
  pub replicators : (y : ℕ) → ReplicatorBelow (length b.entries) (replicator_at b y)

more_pending : (n m : ℕ) (ps : List Pending) → n ≤ m → Each (PendingBelow n) ps → Each (PendingBelow m) ps
more_pending n m ps le h = each_map (PendingBelow n) (PendingBelow m) (λ p lt. omega (arith, le, lt)) ps h

replicator_wider : (n m : ℕ) (v : Replicator) → n ≤ m → ReplicatorBelow n v → ReplicatorBelow m v
replicator_wider n m v le h = record { acked = wider n m v.cursor le h.acked; pending = more_pending n m v.pending le h.pending }

subs_wider : (n m : ℕ) (vs : List Subscription) → n ≤ m → Each (SubBelow n) vs → Each (SubBelow m) vs
subs_wider n m vs le h = each_map (SubBelow n) (SubBelow m) (λ v k. wider n m v.cursor le k) vs h

pub new_stocked : (n : ℕ) → ReplicatorBelow n new_replicator
new_stocked n = record { acked = none_below n; pending = tt }

-- WRITES

-- what a write names is among the first n entries
abbrev pub NamesStored : ℕ → Write → Type 0
NamesStored n (write.Acks name is) = AreBelow n is
NamesStored n (write.Seek name i) = i ≤ n
NamesStored n (write.ReplicatorAck y i) = i < n
NamesStored n w = Unit {0}

names_wider : (n m : ℕ) (w : Write) → n ≤ m → NamesStored n w → NamesStored m w
names_wider n m (write.Acks name is) le h = wider n m is le h
names_wider n m (write.Seek name i) le h = omega (arith, le, h)
names_wider n m (write.ReplicatorAck y i) le h = omega (arith, le, h)
names_wider n m (write.Append e) le h = tt
names_wider n m (write.Create name kind replicated latest) le h = tt
names_wider n m (write.Alter name kind replicated) le h = tt
names_wider n m (write.Delete name) le h = tt
names_wider n m (write.SessionNumber y k) le h = tt
names_wider n m write.Ledger le h = tt

created_length : (per : ℕ) (b : Broker) (name : List ℕ) (kind : SubKind) (replicated latest : Bool) → length b.entries ≤ length (written per b (write.Create name kind replicated latest)).entries
created_length per b name kind replicated latest = on_if (λ (c : Broker). length b.entries ≤ length c.entries) (is_some (sub_named b.subs name)) _ _ (omega arith) (omega arith)

longer : (per : ℕ) (b : Broker) (w : Write) → length b.entries ≤ length (written per b w).entries
longer per b (write.Append e) = omega (arith, length_push b.entries e)
longer per b (write.Create name kind replicated latest) = created_length per b name kind replicated latest
longer per b (write.Alter name kind replicated) = omega arith
longer per b (write.Delete name) = omega arith
longer per b (write.Acks name is) = omega arith
longer per b (write.Seek name i) = omega arith
longer per b (write.ReplicatorAck y i) = omega arith
longer per b (write.SessionNumber y n) = omega arith
longer per b write.Ledger = omega arith

grown_most : (per : ℕ) (ls : List ℕ) → total (grown per ls) ≤ total ls + 1
grown_most per [] = on_if (λ (r : List ℕ). total r ≤ 1) (nat_lt (last_length []) per) _ _ (omega arith) (omega arith)
grown_most per (l ∷ ls) = omega (arith, total_grown per (l ∷ ls) (omega arith))

appended_stocked : (per : ℕ) (b : Broker) (e : Entry) → Stocked b → Stocked (written per b (write.Append e))
appended_stocked per b e h =
    let n = length b.entries in let m = length (b.entries ++ e ∷ []) in
    let one : m ≡ n + 1 = length_push b.entries e in
    let le : n ≤ m = omega (arith, one) in
    record {
      ledgers = omega (arith, h.ledgers, grown_most per b.ledgers, one);
      subs = subs_wider n m b.subs le h.subs;
      replicators = λ y. replicator_wider n m (replicator_at b y) le (h.replicators y);
    }

first_cursor : (n : ℕ) (latest : Bool) → AreBelow n (if latest then below n else [])
first_cursor n latest = on_if (AreBelow n) latest (below n) [] (all_below n n (omega arith)) (none_below n)

created_stocked : (per : ℕ) (b : Broker) (name : List ℕ) (kind : SubKind) (replicated latest : Bool) → Stocked b → Stocked (written per b (write.Create name kind replicated latest))
created_stocked per b name kind replicated latest h =
    let n = length b.entries in
    on_if Stocked (is_some (sub_named b.subs name)) b _ h (record {
      ledgers = h.ledgers;
      subs = each_both (SubBelow n) b.subs (new_subscription name kind replicated (if latest then below n else []) ∷ []) h.subs (first_cursor n latest, tt);
      replicators = h.replicators;
    })

-- what is done to the subscriptions of a name
named_stocked : (b : Broker) (name : List ℕ) (f : Subscription → Subscription) → ((v : Subscription) → SubBelow (length b.entries) v → SubBelow (length b.entries) (f v)) → Stocked b
    → Stocked (at_sub b name f)
named_stocked b name f k h =
    let P : Subscription → Type 0 = SubBelow (length b.entries) in
    record { ledgers = h.ledgers; subs = each_to P P (at_name name f) (λ v p. on_if P (bytes_eq v.name name) (f v) v (k v p) p) b.subs h.subs; replicators = h.replicators }

-- and to the replicator to a cluster
replicator_stocked : (b : Broker) (y : ℕ) (f : Replicator → Replicator) → ((v : Replicator) → ReplicatorBelow (length b.entries) v → ReplicatorBelow (length b.entries) (f v)) → Stocked b → Stocked (at_replicator b y f)
replicator_stocked b y f k h = record {
  ledgers = h.ledgers;
  subs = h.subs;
  replicators = λ z. at_set (ReplicatorBelow (length b.entries)) b.replicators y z (f (replicator_at b y)) new_replicator (λ _. k (replicator_at b y) (h.replicators y)) (h.replicators z);
}

written_stocked : (per : ℕ) (b : Broker) (w : Write) → NamesStored (length b.entries) w → Stocked b → Stocked (written per b w)
written_stocked per b (write.Append e) s h = appended_stocked per b e h
written_stocked per b (write.Create name kind replicated latest) s h = created_stocked per b name kind replicated latest h
written_stocked per b (write.Alter name kind replicated) s h = named_stocked b name (λ v. record v { kind = kind; replicated = replicated }) (λ v k. k) h
written_stocked per b (write.Delete name) s h = record {
  ledgers = h.ledgers;
  subs = each_filter (SubBelow (length b.entries)) (λ (v : Subscription). not (bytes_eq v.name name)) b.subs h.subs;
  replicators = h.replicators;
}
written_stocked per b (write.Acks name is) s h = named_stocked b name (with_acks is) (λ v k. with_all (length b.entries) v.cursor is s k) h
written_stocked per b (write.Seek name i) s h = named_stocked b name (sought i) (λ v k. all_below (length b.entries) i s) h
written_stocked per b (write.ReplicatorAck y i) s h =
    replicator_stocked b y (λ v. record v { cursor = with_index v.cursor i }) (λ v k. record { acked = with_one (length b.entries) v.cursor i s k.acked; pending = k.pending }) h
written_stocked per b (write.SessionNumber y n) s h = replicator_stocked b y (λ v. record v { session = n }) (λ v k. record { acked = k.acked; pending = k.pending }) h
written_stocked per b write.Ledger s h = record { ledgers = omega (arith, h.ledgers, total_opened b.ledgers); subs = h.subs; replicators = h.replicators }

-- what each of some writes names
all_named : (n m : ℕ) (ws : List Write) → n ≤ m → Each (NamesStored n) ws → Each (NamesStored m) ws
all_named n m ws le h = each_map (NamesStored n) (NamesStored m) (λ w k. names_wider n m w le k) ws h

pub record StaysStocked (b c : Broker) : Type 0 where
  pub longer : length b.entries ≤ length c.entries
  pub stocked : Stocked c

writes_stocked : (per : ℕ) (b : Broker) (ws : List Write) → Each (NamesStored (length b.entries)) ws → Stocked b → StaysStocked b (all_written per b ws)
writes_stocked per b [] s h = record { longer = omega arith; stocked = h }
writes_stocked per b (w ∷ ws) s h =
    let le = longer per b w in
    let r = writes_stocked per (written per b w) ws (all_named (length b.entries) (length (written per b w).entries) ws le s.1) (written_stocked per b w s.0 h) in
    record { longer = (let more = r.longer in omega (arith, le, more)); stocked = r.stocked }

-- CHANGES

abbrev pub ReadsStored : ℕ → Change → Type 0
ReadsStored n (change.Pend y i) = i < n
ReadsStored n c = Unit {0}

reads_wider : (n m : ℕ) (c : Change) → n ≤ m → ReadsStored n c → ReadsStored m c
reads_wider n m (change.Pend y i) le h = omega (arith, le, h)
reads_wider n m (change.Receiver x session) le h = tt
reads_wider n m c le h = tt

without_below : (n : ℕ) (ps : List Pending) (k : ℕ) → Each (PendingBelow n) ps → Each (PendingBelow n) (without_number ps k)
without_below n [] k h = tt
without_below n (p ∷ ps) k h = on_if (Each (PendingBelow n)) (p.number == k) ps (p ∷ without_number ps k) h.1 (h.0, without_below n ps k h.1)

changed_stocked : (b : Broker) (c : Change) → ReadsStored (length b.entries) c → Stocked b → Stocked (changed b c)
changed_stocked b (change.Receiver x session) s h = record { ledgers = h.ledgers; subs = h.subs; replicators = h.replicators }
changed_stocked b (change.Client c session) s h = record { ledgers = h.ledgers; subs = h.subs; replicators = h.replicators }
changed_stocked b (change.Attach name k) s h = named_stocked b name (attached k) (λ v p. p) h
changed_stocked b (change.Detach c) s h =
    let P : Subscription → Type 0 = SubBelow (length b.entries) in record { ledgers = h.ledgers; subs = each_to P P (detached c) (λ v p. p) b.subs h.subs; replicators = h.replicators }
changed_stocked b (change.Permit name c permits) s h = named_stocked b name (permitted c permits) (λ v p. p) h
changed_stocked b (change.Skipped name i) s h = named_stocked b name (skipped_index i) (λ v p. p) h
changed_stocked b (change.Given name i at) s h = named_stocked b name (given i at) (λ v p. p) h
changed_stocked b (change.Cache name snapshot) s h = named_stocked b name (λ v. record v { cache = cached v.cache snapshot }) (λ v p. p) h
changed_stocked b (change.Acked name) s h = named_stocked b name after_acks (λ v p. p) h
changed_stocked b (change.Cleared name) s h = named_stocked b name cleared (λ v p. p) h
changed_stocked b (change.Opening y) s h = replicator_stocked b y replicator_reset (λ v p. record { acked = p.acked; pending = tt }) h
changed_stocked b (change.Opened y) s h = replicator_stocked b y (λ v. record v { state = replicator_state.Open }) (λ v p. record { acked = p.acked; pending = p.pending }) h
changed_stocked b (change.Pend y i) s h =
    replicator_stocked b y (replicator_sent i) (λ v p. record { acked = p.acked; pending = each_both (PendingBelow (length b.entries)) v.pending (record { number = v.next; index = i } ∷ []) p.pending (s, tt) }) h
changed_stocked b (change.ReadTo y i) s h = replicator_stocked b y (λ v. record v { read_index = i }) (λ v p. record { acked = p.acked; pending = p.pending }) h
changed_stocked b (change.Unpend y m) s h =
    replicator_stocked b y (λ v. record v { pending = without_number v.pending m }) (λ v p. record { acked = p.acked; pending = without_below (length b.entries) v.pending m p.pending }) h
changed_stocked b (change.Building o) s h = record { ledgers = h.ledgers; subs = h.subs; replicators = h.replicators }
changed_stocked b change.Forget s h =
    let n = length b.entries in
    record {
      ledgers = h.ledgers;
      subs = each_to (SubBelow n) (SubBelow n) cleared (λ v p. p) b.subs h.subs;
      replicators = λ z. at_map (ReplicatorBelow n) replicator_restarted (λ v p. record { acked = p.acked; pending = tt }) b.replicators z new_replicator (new_stocked n) (h.replicators z);
    }

all_read : (n m : ℕ) (cs : List Change) → n ≤ m → Each (ReadsStored n) cs → Each (ReadsStored m) cs
all_read n m cs le h = each_map (ReadsStored n) (ReadsStored m) (λ c k. reads_wider n m c le k) cs h

changes_stocked : (b : Broker) (cs : List Change) → Each (ReadsStored (length b.entries)) cs → Stocked b → Stocked (all_changed b cs)
changes_stocked b [] s h = h
changes_stocked b (c ∷ cs) s h =
    let same = ap (λ (es : List Entry). length es) (changed_entries b c) in
    changes_stocked (changed b c) cs (all_read (length b.entries) (length (changed b c).entries) cs (omega (arith, same)) s.1) (changed_stocked b c s.0 h)

-- PLANS

pub record IsOfStored (n : ℕ) (p : Plan) : Type 0 where
  pub writes : Each (NamesStored n) p.writes
  pub changes : Each (ReadsStored n) p.changes

of_stored : (n : ℕ) (p : Plan) → Each (NamesStored n) p.writes → Each (ReadsStored n) p.changes → IsOfStored n p
of_stored n p ws cs = record { writes = ws; changes = cs }

pub done_stocked : (per : ℕ) (b : Broker) (p : Plan) → IsOfStored (length b.entries) p → Stocked b → Stocked (done per b p)
done_stocked per b p s h =
    let c = all_written per b p.writes in
    let r = writes_stocked per b p.writes s.writes h in
    changes_stocked c p.changes (all_read (length b.entries) (length c.entries) p.changes r.longer s.changes) r.stocked

-- a beginning of the writes, and a new ledger
pub halted_stocked : (per : ℕ) (b : Broker) (k : ℕ) (p : Plan) → IsOfStored (length b.entries) p → Stocked b → Stocked (halted per b k p)
halted_stocked per b k p s h =
    let P : Write → Type 0 = NamesStored (length b.entries) in
    let ws = take k p.writes ++ write.Ledger ∷ [] in
    let r = writes_stocked per b ws (each_both P (take k p.writes) (write.Ledger ∷ []) (each_take P k p.writes s.writes) (tt, tt)) h in
    changed_stocked (all_written per b ws) change.Forget tt r.stocked

-- EVENTS

stands_within : (es : List Entry) (i : ℕ) (e : Entry) → slice_get es i ≡ Some e → i < length es
stands_within [] i e h = absurd (none-some e h)
stands_within (x ∷ es) zero e h = omega arith
stands_within (x ∷ es) (suc i) e h = omega (arith, stands_within es i e h)

updates_stored : (n : ℕ) (h : Site) (b : Broker) (v : Subscription) (ws : List Write) → Updates h b v ws → Each (NamesStored n) ws
updates_stored n h b v ws Updates.NoUpdate = tt
updates_stored n h b v ws (Updates.Update cut replicated passed) = (tt, tt)

served_stored : (h : Site) (b : Broker) (c : ℕ) (p : Packet) (q : Plan) → Stocked b → Served h b c p q → IsOfStored (length b.entries) q
served_stored h b c p q s (Served.Acknowledges v id kind ps u i is ws at sent by of after) =
    let n = length b.entries in
    let named : AreBelow n (i ∷ is) = subst (AreBelow n) of (acked_below n b.ledgers u.kind ps kind s.ledgers) in
    of_stored n q (named, updates_stored n h b _ ws after) (tt, tt)
served_stored h b c p q s (Served.Stores v id seq source e at sound new) = of_stored (length b.entries) q (tt, tt) tt
served_stored h b c p q s Served.Ignores = of_stored (length b.entries) q tt tt
served_stored h b c p q s Served.Disconnects = of_stored (length b.entries) q tt (tt, (tt, tt))
served_stored h b c p q s (Served.Connects v is new) = of_stored (length b.entries) q tt (tt, (tt, tt))
served_stored h b c p q s (Served.Answers v f at) = of_stored (length b.entries) q tt tt
served_stored h b c p q s (Served.ChangesProducers v ps f at) = of_stored (length b.entries) q tt (tt, tt)
served_stored h b c p q s (Served.Repeats v id seq source e at sound old) = of_stored (length b.entries) q tt tt
served_stored h b c p q s (Served.Creates v topic n kind id request consumer earliest replicated at is may named) = of_stored (length b.entries) q (tt, tt) (tt, tt)
served_stored h b c p q s (Served.Joins v topic n kind id request consumer earliest replicated u at is may named free same) = of_stored (length b.entries) q tt (tt, tt)
served_stored h b c p q s (Served.Alters v topic n kind id request consumer earliest replicated u at is may named free other) = of_stored (length b.entries) q (tt, tt) (tt, tt)
served_stored h b c p q s (Served.Permits v id permits u at is by) = of_stored (length b.entries) q tt (tt, tt)
served_stored h b c p q s (Served.Unsubscribes v id request u at is by last) = of_stored (length b.entries) q (tt, tt) tt
served_stored h b c p q s (Served.ClosesConsumer v id request u at is by) = of_stored (length b.entries) q tt (tt, tt)

taken_stored : (n : ℕ) (h : Site) (b : Broker) (x : ℕ) (p : Packet) (q : Plan) → Taken h b x p q → IsOfStored n q
taken_stored n h b x p q (Taken.Stores id seq source e is at may new) = of_stored n q (tt, tt) tt
taken_stored n h b x p q (Taken.Unreadable is) = of_stored n q tt (tt, tt)
taken_stored n h b x p q (Taken.Opens topic id request name is opening) = of_stored n q tt (tt, tt)
taken_stored n h b x p q (Taken.Discards other shut) = of_stored n q tt tt
taken_stored n h b x p q (Taken.Refuses other at may) = of_stored n q tt (tt, tt)
taken_stored n h b x p q (Taken.Repeats id seq source e is at may old) = of_stored n q tt tt

pending_below : (n : ℕ) (ps : List Pending) (k i : ℕ) → Each (PendingBelow n) ps → pending_index ps k ≡ Some i → i < n
pending_below n [] k i h is = absurd (none-some i is)
pending_below n (p ∷ ps) k i h is =
    on_if (λ (o : Option ℕ). o ≡ Some i → i < n) (p.number == k) (Some p.index) (pending_index ps k)
    (λ e. let lt = h.0 in let same = same_Some _ _ e in omega (arith, lt, same)) (λ e. pending_below n ps k i h.1 e) is

answered_stored : (b : Broker) (y : ℕ) (p : Packet) (q : Plan) → Stocked b → Answered b y p q → IsOfStored (length b.entries) q
answered_stored b y p q s (Answered.Received id k i position at is pending) =
    of_stored (length b.entries) q (pending_below (length b.entries) (replicator_at b y).pending k i (s.replicators y).pending pending, tt) (tt, tt)
answered_stored b y p q s (Answered.Stale other) = of_stored (length b.entries) q tt tt
answered_stored b y p q s (Answered.Other at other) = of_stored (length b.entries) q tt tt
answered_stored b y p q s (Answered.Opened request name at is state) = of_stored (length b.entries) q tt (tt, tt)
answered_stored b y p q s (Answered.OpenBefore request name at is state) = of_stored (length b.entries) q tt tt
answered_stored b y p q s (Answered.ClosedBefore request name at is state) = of_stored (length b.entries) q tt tt
answered_stored b y p q s (Answered.ReceivedBefore id k position at is pending) = of_stored (length b.entries) q tt tt

-- what answers appends nothing
answered_length : (per : ℕ) (b : Broker) (y : ℕ) (p : Packet) (q : Plan) → Answered b y p q → length (done per b q).entries ≡ length b.entries
answered_length per b y p q (Answered.Received id k i position at is pending) = refl
answered_length per b y p q (Answered.Stale other) = refl
answered_length per b y p q (Answered.Other at other) = refl
answered_length per b y p q (Answered.Opened request name at is state) = refl
answered_length per b y p q (Answered.OpenBefore request name at is state) = refl
answered_length per b y p q (Answered.ClosedBefore request name at is state) = refl
answered_length per b y p q (Answered.ReceivedBefore id k position at is pending) = refl

both_stored : (n : ℕ) (p q : Plan) → IsOfStored n p → IsOfStored n q → (r : Plan) → r.writes ≡ p.writes ++ q.writes → r.changes ≡ p.changes ++ q.changes → IsOfStored n r
both_stored n p q h k r ws cs =
    of_stored n r (subst (Each (NamesStored n)) (sym ws) (each_both (NamesStored n) p.writes q.writes h.writes k.writes))
    (subst (Each (ReadsStored n)) (sym cs) (each_both (ReadsStored n) p.changes q.changes h.changes k.changes))

take_stored : (n per : ℕ) (h : Site) (b : Broker) (x : ℕ) (p : Packet) (q : Plan) → Fated per b (λ c. Taken h c x p) (closes x) q → IsOfStored n q
take_stored n per h b x p q (Fated.Once r a) = taken_stored n h b x p r a
take_stored n per h b x p q Fated.Lost = of_stored n (closes x) tt (tt, tt)
take_stored n per h b x p q (Fated.Twice r r' a a') =
    both_stored n r r' (taken_stored n h b x p r a) (taken_stored n h (done per b r) x p r' a') q refl refl

receipt_stored : (per : ℕ) (b : Broker) (y : ℕ) (p : Packet) (q : Plan) → Stocked b → Fated per b (λ c. Answered c y p) (quiet_plan []) q → IsOfStored (length b.entries) q
receipt_stored per b y p q s (Fated.Once r a) = answered_stored b y p r s a
receipt_stored per b y p q s Fated.Lost = of_stored (length b.entries) (quiet_plan []) tt tt
receipt_stored per b y p q s (Fated.Twice r r' a a') =
    let first = answered_stored b y p r s a in
    let second = answered_stored (done per b r) y p r' (done_stocked per b r first s) a' in
    both_stored (length b.entries) r r' first (subst (λ (n : ℕ). IsOfStored n r') (answered_length per b y p r a) second) q refl refl

reads_stored : (h : Site) (b : Broker) (y : ℕ) (q : Plan) → Reads h b y q → IsOfStored (length b.entries) q
reads_stored h b y q Reads.NothingToRead = of_stored (length b.entries) q tt tt
reads_stored h b y q (Reads.Forwards i e next out) = of_stored (length b.entries) q tt (stands_within b.entries i e next.2, tt)
reads_stored h b y q (Reads.Skips i e next other) = of_stored (length b.entries) q (stands_within b.entries i e next.2, tt) (tt, tt)
reads_stored h b y q (Reads.Responds i e id source next of is) = of_stored (length b.entries) q (tt, (stands_within b.entries i e next.2, tt)) (tt, tt)
reads_stored h b y q (Reads.Counts i e id answer u u' next is heard) = of_stored (length b.entries) q (stands_within b.entries i e next.2, tt) (tt, (tt, tt))
reads_stored h b y q (Reads.AsksAgain i e id answer u u' next is heard) = of_stored (length b.entries) q (tt, (stands_within b.entries i e next.2, tt)) (tt, (tt, tt))
reads_stored h b y q (Reads.Completes i e id answer u u' next is heard) = of_stored (length b.entries) q (tt, (stands_within b.entries i e next.2, tt)) (tt, (tt, tt))
reads_stored h b y q (Reads.CreatesAt i j e name remote next is named) =
    of_stored (length b.entries) q (tt, (over_below y (j + 1) b.entries, (stands_within b.entries i e next.2, tt))) (tt, (tt, tt))
reads_stored h b y q (Reads.ActsOnUpdate i j e name remote v ws next is named after) =
    let n = length b.entries in
    of_stored n q (over_below y (j + 1) b.entries, each_both (NamesStored n) ws (write.ReplicatorAck y i ∷ []) (updates_stored n h b _ ws after) (stands_within b.entries i e next.2, tt)) (tt, (tt, tt))

snaps_stored : (n : ℕ) (h : Site) (b : Broker) (q : Plan) → Snaps h b q → IsOfStored n q
snaps_stored n h b q Snaps.NothingToAsk = of_stored n q tt tt
snaps_stored n h b q (Snaps.Asks any none) = of_stored n q (tt, tt) (tt, tt)

offers_stored : (h : Site) (b : Broker) (name : List ℕ) (q : Plan) → Offers h b name q → IsOfStored (length b.entries) q
offers_stored h b name q Offers.NothingToOffer = of_stored (length b.entries) q tt tt
offers_stored h b name q (Offers.Gives v i at e due is picked) = of_stored (length b.entries) q tt (tt, tt)
offers_stored h b name q (Offers.SkipsMarker v i e ws due is after) =
    let n = length b.entries in
    of_stored n q (one_below n i [] (stands_within b.entries i e due.2) (none_below n), updates_stored n h b _ ws after) (tt, (tt, tt))
offers_stored h b name q (Offers.Caches v i j e c ws due is after) =
    let n = length b.entries in
    of_stored n q (one_below n i [] (stands_within b.entries i e due.2) (none_below n), updates_stored n h b _ ws after) (tt, (tt, (tt, tt)))

sought_below : (b : Broker) (to : Option Position) (i : ℕ) → total b.ledgers ≤ length b.entries → seek_index b to ≡ Some i → i ≤ length b.entries
sought_below b None i le is = let same = same_Some _ _ is in omega (arith, same)
sought_below b (Some p) i le is = let lt = counts_to (length b.entries) b.ledgers p i le is in omega (arith, lt)

seeks_stored : (h : Site) (b : Broker) (name : List ℕ) (to : Option Position) (q : Plan) → Stocked b → Seeks h b name to q → IsOfStored (length b.entries) q
seeks_stored h b name to q s Seeks.NothingToSeek = of_stored (length b.entries) q tt tt
seeks_stored h b name to q s (Seeks.SeeksTo v i ws named at after) =
    of_stored (length b.entries) q (sought_below b to i s.ledgers at, updates_stored (length b.entries) h b _ ws after) (tt, tt)

pub restart_stored : (n : ℕ) → IsOfStored n restart
unfolding restart
restart_stored n = record { writes = (tt, tt); changes = (tt, tt) }

-- whatever an event does
pub shape_stored : (s : Setup) (w : World) (p : Planned) → Stocked (topic_at s w p.topic p.cluster) → Shape s w p → IsOfStored (length (topic_at s w p.topic p.cluster).entries) p.plan
shape_stored s w p h (Shape.Reset t x y within remote) = of_stored _ _ (tt, tt) (tt, tt)
shape_stored s w p h (Shape.Read t x y plan within reads) = reads_stored _ _ y plan reads
shape_stored s w p h (Shape.Idle t x within) = of_stored (length (topic_at s w t x).entries) idle_plan tt tt
shape_stored s w p h (Shape.Empty t x k within next) = of_stored (length (topic_at s w t x).entries) idle_plan tt tt
shape_stored s w p h (Shape.Serve x c q plan within next served) = served_stored _ _ c q plan h served
shape_stored s w p h (Shape.Drop x c v within at) = of_stored (length (topic_at s w (declared_at s c).topic x).entries) (quiet_plan (session_becomes c None)) tt (tt, (tt, tt))
shape_stored s w p h (Shape.Take t x y q plan within next taken) = take_stored _ s.per_ledger _ _ x q plan taken
shape_stored s w p h (Shape.Receipt t x y q plan within next answered) = receipt_stored s.per_ledger _ y q plan h answered
shape_stored s w p h (Shape.Snap t x plan within snaps) = snaps_stored _ _ _ plan snaps
shape_stored s w p h (Shape.Offer t x m plan within offers) = offers_stored _ _ _ plan offers
shape_stored s w p h (Shape.Seek t x m to plan within seeks) = seeks_stored _ _ _ to plan h seeks
shape_stored s w p h (Shape.Restart t x within) = restart_stored _
