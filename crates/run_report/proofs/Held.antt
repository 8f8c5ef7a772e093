-- What a broker holds that settling may have to bring over: an event adds a few entries and subscriptions, and a subscription's
-- cache keeps ten snapshots.
use Rattle.std.proofs.Common.{◌≡◌, ℕ, zero, suc, ◌+◌, ◌*◌, ◌≤◌, ◌<◌, Bool, false, List, [], ◌∷◌, ◌++◌, length, map, filter, arith}
use Rattle.std.specs.Prelude.{if◌then◌else◌, drop, is_some, nat_lt, not, sum, take}
use Rattle.std.specs.Str.{bytes_eq}
use Rattle.std.proofs.lemmas.Bool.Decides.{nat_tests}
use Rattle.std.proofs.lemmas.List.{length-map}
use Rattle.geo_base.specs.declared.change.Change.{Change}
use Rattle.geo_base.specs.declared.change.Change.TheVariants as change
use Rattle.geo_base.specs.declared.snapshot.CachedSnapshot.{CachedSnapshot}
use Rattle.geo_base.specs.declared.write.Write.{Write}
use Rattle.geo_base.specs.declared.write.Write.TheVariants as write
use Rattle.geo_base.specs.Broker.{Broker, changed, sub_named, written}
use Rattle.geo_base.specs.Cache.{any_passed, cached, most_cached, not_passed}
use Rattle.geo_base.specs.Cursor.{below, mark}
use Rattle.geo_base.specs.Dispatcher.{given, skipped_index}
use Rattle.geo_base.specs.Plan.{Plan, all_changed, all_written, done, halted}
use Rattle.geo_base.specs.Run.{waiting_of}
use Rattle.geo_base.specs.Seeking.{restart}
use Rattle.geo_base.specs.Subscription.{Subscription, after_acks, attached, cleared, detached, new_subscription, permitted, sought, with_acks}
use Rattle.world_laws.proofs.Dispatching.SubFrames.{AllSubs, all_written_subs, at_name, created_subs, done_subs}
use Rattle.world_laws.proofs.Budget.Tails.{sum_cons}
use Rattle.world_laws.proofs.Walks.Walk.{on_if, on_test}
use Rattle.geo_base.proofs.Lists.{length_push}

-- ---- how many entries and subscriptions

-- the entries, and ten for each subscription
abbrev pub held : Broker → ℕ
held b = length b.entries + 10 * length b.subs

filtered : {X : Type 0} (p : X → Bool) (xs : List X) → length (filter p xs) ≤ length xs
filtered p [] = omega arith
filtered p (x ∷ xs) = let h = filtered p xs in on_if (λ (l : List _). length l ≤ length (x ∷ xs)) (p x) (x ∷ filter p xs) (filter p xs) (omega (arith, h)) (omega (arith, h))

named_held : (b : Broker) (n : List ℕ) (f : Subscription → Subscription) → held (record b { subs = map (λ (s : Subscription). if bytes_eq s.name n then f s else s) b.subs }) ≤ held b
named_held b n f = let h = length-map b.subs (λ (s : Subscription). if bytes_eq s.name n then f s else s) in omega (arith, h)

written_held : (per : ℕ) (b : Broker) (w : Write) → held (written per b w) ≤ held b + 10
written_held per b (write.Append e) = let h = length_push b.entries e in omega (arith, h)
written_held per b (write.Create n kind replicated latest) =
    let u = new_subscription n kind replicated (if latest then below (length b.entries) else []) in
    let h = length_push b.subs u in
    on_if (λ (c : Broker). held c ≤ held b + 10) (is_some (sub_named b.subs n)) b (record b { subs = b.subs ++ u ∷ [] }) (omega arith) (omega (arith, h))
written_held per b (write.Alter n kind replicated) = let h = named_held b n (λ s. record s { kind = kind; replicated = replicated }) in omega (arith, h)
written_held per b (write.Delete n) = let h = filtered (λ (s : Subscription). not (bytes_eq s.name n)) b.subs in omega (arith, h)
written_held per b (write.Acks n is) = let h = named_held b n (with_acks is) in omega (arith, h)
written_held per b (write.Seek n i) = let h = named_held b n (sought i) in omega (arith, h)
written_held per b (write.ReplicatorAck y i) = omega arith
written_held per b (write.SessionNumber y session) = omega arith
written_held per b write.Ledger = omega arith

all_written_held : (per : ℕ) (b : Broker) (ws : List Write) → held (all_written per b ws) ≤ held b + 10 * length ws
all_written_held per b [] = omega arith
all_written_held per b (w ∷ ws) = let one = written_held per b w in let rest = all_written_held per (written per b w) ws in omega (arith, one, rest)

changed_held : (b : Broker) (c : Change) → held (changed b c) ≤ held b
changed_held b (change.Attach n k) = named_held b n (attached k)
changed_held b (change.Detach c) = let h = length-map b.subs (detached c) in omega (arith, h)
changed_held b (change.Permit n c permits) = named_held b n (permitted c permits)
changed_held b (change.Skipped n i) = named_held b n (skipped_index i)
changed_held b (change.Given n i at) = named_held b n (given i at)
changed_held b (change.Cache n c) = named_held b n (λ s. record s { cache = cached s.cache c })
changed_held b (change.Acked n) = named_held b n after_acks
changed_held b (change.Cleared n) = named_held b n cleared
changed_held b change.Forget = let h = length-map b.subs cleared in omega (arith, h)
changed_held b (change.Receiver x r) = omega arith
changed_held b (change.Client c v) = omega arith
changed_held b (change.Opening y) = omega arith
changed_held b (change.Opened y) = omega arith
changed_held b (change.Pend y i) = omega arith
changed_held b (change.ReadTo y i) = omega arith
changed_held b (change.Unpend y n) = omega arith
changed_held b (change.Building o) = omega arith

all_changed_held : (b : Broker) (cs : List Change) → held (all_changed b cs) ≤ held b
all_changed_held b [] = omega arith
all_changed_held b (c ∷ cs) = let one = changed_held b c in let rest = all_changed_held (changed b c) cs in omega (arith, one, rest)

pub done_held : (per : ℕ) (b : Broker) (p : Plan) → held (done per b p) ≤ held b + 10 * length p.writes
done_held per b p = let w = all_written_held per b p.writes in let c = all_changed_held (all_written per b p.writes) p.changes in omega (arith, w, c)

taken_length : {X : Type 0} (k : ℕ) (xs : List X) → length (take k xs) ≤ length xs
taken_length zero xs = omega arith
taken_length (suc k) [] = omega arith
taken_length (suc k) (x ∷ xs) = let h = taken_length k xs in omega (arith, h)

pub halted_held : (per : ℕ) (b : Broker) (k : ℕ) (p : Plan) → held (halted per b k p) ≤ held b + 10 * (length p.writes + 1)
halted_held per b k p =
    let ws = take k p.writes ++ write.Ledger ∷ [] in
    let w = all_written_held per b ws in
    let c = changed_held (all_written per b ws) change.Forget in
    let l = length_push (take k p.writes) write.Ledger in
    let t = taken_length k p.writes in omega (arith, w, c, l, t)

pub restarted_held : (per : ℕ) (b : Broker) → held (done per b restart) ≤ held b
unfolding restart
restarted_held per b = let h = length-map b.subs cleared in omega (arith, h)

-- ---- how many snapshots

abbrev pub IsSmall : Subscription → Type 0
IsSmall v = length v.cache ≤ 10

small_named : (n : List ℕ) (f : Subscription → Subscription) (v : Subscription) → (IsSmall v → IsSmall (f v)) → IsSmall v → IsSmall (at_name n f v)
small_named n f v k h = on_if IsSmall (bytes_eq v.name n) (f v) v (k h) h

dropped : {X : Type 0} (xs : List X) (x : X) → 1 ≤ length xs → length (drop 1 xs ++ x ∷ []) ≡ length xs
dropped [] x some = absurd (omega (arith, some))
dropped (y ∷ ys) x some = let h = length_push ys x in omega (arith, h)

cached_small : (cs : List CachedSnapshot) (c : CachedSnapshot) → length cs ≤ 10 → length (cached cs c) ≤ 10
cached_small cs c h =
    on_test (λ (l : List CachedSnapshot). length l ≤ 10) (nat_lt (length cs) most_cached) _ _
    (λ t. let p = length_push cs c in let lt : length cs < 10 = grind (arith, nat_tests, t) in omega (arith, p, lt))
    (λ t. let full : 10 ≤ length cs = grind (arith, nat_tests, t) in let p = dropped cs c (omega (arith, full)) in omega (arith, p, h))

passed_small : (m : ℕ) (cs : List CachedSnapshot) → length (not_passed m cs) ≤ length cs
passed_small m [] = omega arith
passed_small m (c ∷ cs) =
    let h = passed_small m cs in
    on_if (λ (l : List CachedSnapshot). length l ≤ length (c ∷ cs)) (any_passed m (c ∷ cs)) (not_passed m cs) (c ∷ cs) (omega (arith, h)) (omega arith)

acked_small : (v : Subscription) → IsSmall v → IsSmall (after_acks v)
acked_small v h =
    on_if (λ (l : List CachedSnapshot). length l ≤ 10) v.replicated (not_passed (mark v.cursor) v.cache) v.cache
    (let p = passed_small (mark v.cursor) v.cache in omega (arith, p, h)) h

written_small : (per : ℕ) (b : Broker) (w : Write) → AllSubs IsSmall b → AllSubs IsSmall (written per b w)
written_small per b (write.Create n kind replicated latest) h = created_subs IsSmall per b n kind replicated latest h (omega arith)
written_small per b (write.Alter n kind replicated) h =
    all_written_subs IsSmall IsSmall per b (write.Alter n kind replicated ∷ []) (tt, tt) (λ v k. small_named n (λ s. record s { kind = kind; replicated = replicated }) v (λ k. k) k) h
written_small per b (write.Acks n is) h = all_written_subs IsSmall IsSmall per b (write.Acks n is ∷ []) (tt, tt) (λ v k. small_named n (with_acks is) v (λ k. k) k) h
written_small per b (write.Seek n i) h = all_written_subs IsSmall IsSmall per b (write.Seek n i ∷ []) (tt, tt) (λ v k. small_named n (sought i) v (λ k. k) k) h
written_small per b (write.Append e) h = h
written_small per b (write.Delete n) h = all_written_subs IsSmall IsSmall per b (write.Delete n ∷ []) (tt, tt) (λ v k. k) h
written_small per b (write.ReplicatorAck y i) h = h
written_small per b (write.SessionNumber y n) h = h
written_small per b write.Ledger h = h

all_written_small : (per : ℕ) (b : Broker) (ws : List Write) → AllSubs IsSmall b → AllSubs IsSmall (all_written per b ws)
all_written_small per b [] h = h
all_written_small per b (w ∷ ws) h = all_written_small per (written per b w) ws (written_small per b w h)

abbrev only : Change → Plan
only c = record { idle = false; writes = []; changes = c ∷ []; sent = [] }

changed_small : (b : Broker) (c : Change) → AllSubs IsSmall b → AllSubs IsSmall (changed b c)
changed_small b (change.Attach n k) h = done_subs IsSmall IsSmall 1 b (only (change.Attach n k)) tt (λ v m. small_named n (attached k) v (λ m. m) m) h
changed_small b (change.Detach c) h = done_subs IsSmall IsSmall 1 b (only (change.Detach c)) tt (λ v m. m) h
changed_small b (change.Permit n c permits) h = done_subs IsSmall IsSmall 1 b (only (change.Permit n c permits)) tt (λ v m. small_named n (permitted c permits) v (λ m. m) m) h
changed_small b (change.Skipped n i) h = done_subs IsSmall IsSmall 1 b (only (change.Skipped n i)) tt (λ v m. small_named n (skipped_index i) v (λ m. m) m) h
changed_small b (change.Given n i at) h = done_subs IsSmall IsSmall 1 b (only (change.Given n i at)) tt (λ v m. small_named n (given i at) v (λ m. m) m) h
changed_small b (change.Cache n c) h =
    done_subs IsSmall IsSmall 1 b (only (change.Cache n c)) tt (λ v m. small_named n (λ s. record s { cache = cached s.cache c }) v (cached_small v.cache c) m) h
changed_small b (change.Acked n) h = done_subs IsSmall IsSmall 1 b (only (change.Acked n)) tt (λ v m. small_named n after_acks v (acked_small v) m) h
changed_small b (change.Cleared n) h = done_subs IsSmall IsSmall 1 b (only (change.Cleared n)) tt (λ v m. small_named n cleared v (λ _. omega arith) m) h
changed_small b change.Forget h = done_subs IsSmall IsSmall 1 b (only change.Forget) tt (λ v m. omega arith) h
changed_small b (change.Receiver x r) h = h
changed_small b (change.Client c v) h = h
changed_small b (change.Opening y) h = h
changed_small b (change.Opened y) h = h
changed_small b (change.Pend y i) h = h
changed_small b (change.ReadTo y i) h = h
changed_small b (change.Unpend y n) h = h
changed_small b (change.Building o) h = h

all_changed_small : (b : Broker) (cs : List Change) → AllSubs IsSmall b → AllSubs IsSmall (all_changed b cs)
all_changed_small b [] h = h
all_changed_small b (c ∷ cs) h = all_changed_small (changed b c) cs (changed_small b c h)

pub done_small : (per : ℕ) (b : Broker) (p : Plan) → AllSubs IsSmall b → AllSubs IsSmall (done per b p)
done_small per b p h = all_changed_small (all_written per b p.writes) p.changes (all_written_small per b p.writes h)

pub halted_small : (per : ℕ) (b : Broker) (k : ℕ) (p : Plan) → AllSubs IsSmall b → AllSubs IsSmall (halted per b k p)
halted_small per b k p h =
    let ws = take k p.writes ++ write.Ledger ∷ [] in changed_small (all_written per b ws) change.Forget (all_written_small per b ws h)

-- ---- so what waits at a broker is what it holds, and perhaps a snapshot in the making

caches_most : (vs : List Subscription) (b : Broker) → AllSubs IsSmall (record b { subs = vs }) → sum (map (λ (v : Subscription). length v.cache) vs) ≤ 10 * length vs
caches_most [] b h = omega arith
caches_most (v ∷ vs) b h =
    let e = sum_cons (length v.cache) (map (λ (v : Subscription). length v.cache) vs) in let rest = caches_most vs b h.1 in omega (arith, e, rest, h.0)

pub waiting_most : (b : Broker) → AllSubs IsSmall b → waiting_of b ≤ held b + 1
waiting_most b h =
    let c = caches_most b.subs b h in
    let built : (if is_some b.builder then 1 else 0) ≤ 1 = on_if (λ (k : ℕ). k ≤ 1) (is_some b.builder) 1 0 (omega arith) (omega arith) in omega (arith, c, built)
