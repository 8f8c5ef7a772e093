-- All that a broker keeps can still be written after an event, or a stop within it, that adds only what can be.
use Rattle.std.proofs.Common.{ℕ, Bool, List, [], ◌∷◌, ◌++◌, length, map}
use Rattle.std.specs.Prelude.{if◌then◌else◌, not, nat_lt, is_some, filter, drop}
use Rattle.std.specs.List.{AllByRecursion}
use Rattle.std.specs.Str.{bytes_eq}
use Rattle.geo_base.specs.declared.change.Change.{Change}
use Rattle.geo_base.specs.declared.change.Change.TheVariants as change
use Rattle.geo_base.specs.declared.snapshot.CachedSnapshot.{CachedSnapshot}
use Rattle.geo_base.specs.declared.write.Write.{Write}
use Rattle.geo_base.specs.declared.write.Write.TheVariants as write
use Rattle.geo_base.specs.Broker.{Broker, Site, at_sub, changed, sub_named, written}
use Rattle.geo_base.specs.Cache.{any_passed, cached, most_cached, not_passed}
use Rattle.geo_base.specs.Cursor.{below, mark}
use Rattle.geo_base.specs.Plan.{Plan, all_changed, all_written, done}
use Rattle.geo_base.specs.Subscription.{Subscription, after_acks, cleared, detached, new_subscription}
use Rattle.broker_plans.specs.Storable.{ChangesStorable, IsSnapshotOf, IsWritable, PlanStorable, WritesStorable}
use Rattle.geo_base.proofs.Bools.{if_both}
use Rattle.geo_base.proofs.Lists.{all_append}

-- ---- lists

all_map : {X : Type 0} (P : X → Type 0) (f : X → X) → ((x : X) → P x → P (f x)) → (xs : List X) → AllByRecursion P xs → AllByRecursion P (map f xs)
all_map P f keeps [] h = tt
all_map P f keeps (x ∷ xs) h = (keeps x h.0, all_map P f keeps xs h.1)

all_filter : {X : Type 0} (P : X → Type 0) (p : X → Bool) (xs : List X) → AllByRecursion P xs → AllByRecursion P (filter p xs)
all_filter P p [] h = tt
all_filter P p (x ∷ xs) h = if_both (AllByRecursion P) (p x) (x ∷ filter p xs) (filter p xs) (h.0, all_filter P p xs h.1) (all_filter P p xs h.1)

-- ---- caches

abbrev pub AreSnapshots : Site → List CachedSnapshot → Type 0
AreSnapshots h cs = AllByRecursion (IsSnapshotOf h) cs

abbrev pub HasSnapshots : Site → Subscription → Type 0
HasSnapshots h s = AreSnapshots h s.cache

first_dropped : (h : Site) (cs : List CachedSnapshot) → AreSnapshots h cs → AreSnapshots h (drop 1 cs)
first_dropped h [] all = tt
first_dropped h (c ∷ cs) all = all.1

one_more : (h : Site) (cs : List CachedSnapshot) (c : CachedSnapshot) → AreSnapshots h cs → IsSnapshotOf h c → AreSnapshots h (cached cs c)
one_more h cs c all new =
    if_both (AreSnapshots h) (nat_lt (length cs) most_cached) (cs ++ c ∷ []) (drop 1 cs ++ c ∷ [])
    (all_append (IsSnapshotOf h) cs (c ∷ []) all (new, tt))
    (all_append (IsSnapshotOf h) (drop 1 cs) (c ∷ []) (first_dropped h cs all) (new, tt))

passed_gone : (h : Site) (mark : ℕ) (cs : List CachedSnapshot) → AreSnapshots h cs → AreSnapshots h (not_passed mark cs)
passed_gone h mark [] all = tt
passed_gone h mark (c ∷ cs) all = if_both (AreSnapshots h) (any_passed mark (c ∷ cs)) (not_passed mark cs) (c ∷ cs) (passed_gone h mark cs all.1) all

after_acks_has : (h : Site) (s : Subscription) → HasSnapshots h s → HasSnapshots h (after_acks s)
after_acks_has h s all = if_both (AreSnapshots h) s.replicated (not_passed (mark s.cursor) s.cache) s.cache (passed_gone h (mark s.cursor) s.cache all) all

-- ---- a broker

-- with one subscription changed, whose snapshots are such ones still
with_sub : (h : Site) (b : Broker) (n : List ℕ) (f : Subscription → Subscription) → ((s : Subscription) → HasSnapshots h s → HasSnapshots h (f s)) → IsWritable h b → IsWritable h (at_sub b n f)
with_sub h b n f keeps is = record {
  entries = is.entries;
  caches = all_map (HasSnapshots h) (λ (s : Subscription). if bytes_eq s.name n then f s else s) (λ s has. if_both (HasSnapshots h) (bytes_eq s.name n) (f s) s (keeps s has) has) b.subs is.caches;
  builder = is.builder;
}

-- ---- a write

written_keeps : (h : Site) (per : ℕ) (b : Broker) (w : Write) → WritesStorable h (w ∷ []) → IsWritable h b → IsWritable h (written per b w)
written_keeps h per b (write.Append e) ok is = record { entries = all_append _ b.entries (e ∷ []) is.entries ok; caches = is.caches; builder = is.builder }
written_keeps h per b (write.Create n kind replicated latest) ok is =
    let s : Subscription = new_subscription n kind replicated (if latest then below (length b.entries) else []) in
    let c : Broker = record b { subs = b.subs ++ s ∷ [] } in
    if_both (IsWritable h) (is_some (sub_named b.subs n)) b c is (record { entries = is.entries; caches = all_append (HasSnapshots h) b.subs (s ∷ []) is.caches (tt, tt); builder = is.builder })
written_keeps h per b (write.Alter n kind replicated) ok is = with_sub h b n (λ s. record s { kind = kind; replicated = replicated }) (λ s has. has) is
written_keeps h per b (write.Delete n) ok is = record { entries = is.entries; caches = all_filter (HasSnapshots h) (λ (s : Subscription). not (bytes_eq s.name n)) b.subs is.caches; builder = is.builder }
written_keeps h per b (write.Acks n is_) ok is = with_sub h b n _ (λ s has. has) is
written_keeps h per b (write.Seek n i) ok is = with_sub h b n _ (λ s has. has) is
written_keeps h per b (write.ReplicatorAck y i) ok is = record { entries = is.entries; caches = is.caches; builder = is.builder }
written_keeps h per b (write.SessionNumber y session) ok is = record { entries = is.entries; caches = is.caches; builder = is.builder }
written_keeps h per b write.Ledger ok is = record { entries = is.entries; caches = is.caches; builder = is.builder }

-- what is said of the first of some writes, and of the others
first_write : (h : Site) (w : Write) (ws : List Write) → WritesStorable h (w ∷ ws) → WritesStorable h (w ∷ []) × WritesStorable h ws
first_write h (write.Append e) ws ok = ((ok.0, tt), ok.1)
first_write h (write.Create n kind replicated latest) ws ok = (tt, ok)
first_write h (write.Alter n kind replicated) ws ok = (tt, ok)
first_write h (write.Delete n) ws ok = (tt, ok)
first_write h (write.Acks n is) ws ok = (tt, ok)
first_write h (write.Seek n i) ws ok = (tt, ok)
first_write h (write.ReplicatorAck y i) ws ok = (tt, ok)
first_write h (write.SessionNumber y session) ws ok = (tt, ok)
first_write h write.Ledger ws ok = (tt, ok)

writes_keep : (h : Site) (per : ℕ) (b : Broker) (ws : List Write) → WritesStorable h ws → IsWritable h b → IsWritable h (all_written per b ws)
writes_keep h per b [] ok is = is
writes_keep h per b (w ∷ ws) ok is =
    let parts = first_write h w ws ok in
    writes_keep h per (written per b w) ws parts.1 (written_keeps h per b w parts.0 is)

-- ---- a change

changed_keeps : (h : Site) (b : Broker) (c : Change) → ChangesStorable h (c ∷ []) → IsWritable h b → IsWritable h (changed b c)
changed_keeps h b (change.Receiver x session) ok is = record { entries = is.entries; caches = is.caches; builder = is.builder }
changed_keeps h b (change.Client c session) ok is = record { entries = is.entries; caches = is.caches; builder = is.builder }
changed_keeps h b (change.Attach n k) ok is = with_sub h b n _ (λ s has. has) is
changed_keeps h b (change.Detach c) ok is = record { entries = is.entries; caches = all_map (HasSnapshots h) (detached c) (λ s has. has) b.subs is.caches; builder = is.builder }
changed_keeps h b (change.Permit n c permits) ok is = with_sub h b n _ (λ s has. has) is
changed_keeps h b (change.Skipped n i) ok is = with_sub h b n _ (λ s has. has) is
changed_keeps h b (change.Given n i at) ok is = with_sub h b n _ (λ s has. has) is
changed_keeps h b (change.Cache n c) ok is = with_sub h b n (λ s. record s { cache = cached s.cache c }) (λ s has. one_more h s.cache c has ok.0) is
changed_keeps h b (change.Acked n) ok is = with_sub h b n after_acks (after_acks_has h) is
changed_keeps h b (change.Cleared n) ok is = with_sub h b n cleared (λ s has. tt) is
changed_keeps h b (change.Opening y) ok is = record { entries = is.entries; caches = is.caches; builder = is.builder }
changed_keeps h b (change.Opened y) ok is = record { entries = is.entries; caches = is.caches; builder = is.builder }
changed_keeps h b (change.Pend y i) ok is = record { entries = is.entries; caches = is.caches; builder = is.builder }
changed_keeps h b (change.ReadTo y i) ok is = record { entries = is.entries; caches = is.caches; builder = is.builder }
changed_keeps h b (change.Unpend y number) ok is = record { entries = is.entries; caches = is.caches; builder = is.builder }
changed_keeps h b (change.Building o) ok is = record { entries = is.entries; caches = is.caches; builder = ok.0 }
changed_keeps h b change.Forget ok is = record { entries = is.entries; caches = all_map (HasSnapshots h) cleared (λ s has. tt) b.subs is.caches; builder = tt }

first_change : (h : Site) (c : Change) (cs : List Change) → ChangesStorable h (c ∷ cs) → ChangesStorable h (c ∷ []) × ChangesStorable h cs
first_change h (change.Receiver x session) cs ok = (tt, ok)
first_change h (change.Client c session) cs ok = (tt, ok)
first_change h (change.Attach n k) cs ok = (tt, ok)
first_change h (change.Detach c) cs ok = (tt, ok)
first_change h (change.Permit n c permits) cs ok = (tt, ok)
first_change h (change.Skipped n i) cs ok = (tt, ok)
first_change h (change.Given n i at) cs ok = (tt, ok)
first_change h (change.Cache n c) cs ok = ((ok.0, tt), ok.1)
first_change h (change.Acked n) cs ok = (tt, ok)
first_change h (change.Cleared n) cs ok = (tt, ok)
first_change h (change.Opening y) cs ok = (tt, ok)
first_change h (change.Opened y) cs ok = (tt, ok)
first_change h (change.Pend y i) cs ok = (tt, ok)
first_change h (change.ReadTo y i) cs ok = (tt, ok)
first_change h (change.Unpend y number) cs ok = (tt, ok)
first_change h (change.Building o) cs ok = ((ok.0, tt), ok.1)
first_change h change.Forget cs ok = (tt, ok)

changes_keep : (h : Site) (b : Broker) (cs : List Change) → ChangesStorable h cs → IsWritable h b → IsWritable h (all_changed b cs)
changes_keep h b [] ok is = is
changes_keep h b (c ∷ cs) ok is =
    let parts = first_change h c cs ok in
    changes_keep h (changed b c) cs parts.1 (changed_keeps h b c parts.0 is)

-- an event
pub done_keeps : (h : Site) (per : ℕ) (b : Broker) (p : Plan) → PlanStorable h p → IsWritable h b → IsWritable h (done per b p)
done_keeps h per b p ok is = changes_keep h (all_written per b p.writes) p.changes ok.changes (writes_keep h per b p.writes ok.writes is)
