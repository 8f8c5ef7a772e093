-- The snapshots in the caches of a broker's subscriptions: a fact of each of them is kept by all writes, and by all changes that
-- bring none into a cache but such as have it.
use Rattle.std.proofs.Common.{◌≡◌, ℕ, zero, suc, List, [], ◌∷◌, ◌++◌, length, map, refl, subst, inl, inr}
use Rattle.std.specs.Prelude.{Some, drop, if◌then◌else◌, is_some, nat_lt, not, slice_get}
use Rattle.std.specs.Str.{bytes_eq}
use Rattle.std.proofs.lemmas.Option.{none-some, same_Some}
use Rattle.world_laws.proofs.Types.{CachedSnapshot, Change, Write}
use Rattle.world_laws.proofs.Types.change
use Rattle.world_laws.proofs.Types.write
use Rattle.geo_base.specs.Broker.{Broker, changed, sub_named, written}
use Rattle.geo_base.specs.Cache.{any_passed, cached, most_cached, not_passed}
use Rattle.geo_base.specs.Cursor.{below, mark}
use Rattle.geo_base.specs.Dispatcher.{given, skipped_index}
use Rattle.geo_base.specs.Plan.{all_changed, all_written}
use Rattle.geo_base.specs.Subscription.{Subscription, after_acks, attached, cleared, detached, new_subscription, permitted, sought, with_acks}
use Rattle.world_laws.proofs.Replicating.Effects.{Each}
use Rattle.world_laws.proofs.OnceInOrder.Members.{from_filter, get_push}
use Rattle.world_laws.proofs.Walks.Walk.{on_if}

-- a fact of each snapshot of a list
abbrev pub AllIn : (CachedSnapshot → Type 0) → List CachedSnapshot → Type 0
AllIn F cs = (k : ℕ) (c : CachedSnapshot) → slice_get cs k ≡ Some c → F c

abbrev pub Cached : (CachedSnapshot → Type 0) → Subscription → Type 0
Cached F v = AllIn F v.cache

abbrev pub AllCached : (CachedSnapshot → Type 0) → List Subscription → Type 0
AllCached F vs = (k : ℕ) (v : Subscription) → slice_get vs k ≡ Some v → Cached F v

mapped : (F : CachedSnapshot → Type 0) (f : Subscription → Subscription) → ((v : Subscription) → Cached F v → Cached F (f v)) → (vs : List Subscription) → AllCached F vs
    → AllCached F (map f vs)
mapped F f h [] all k v at = absurd (none-some v at)
mapped F f h (a ∷ vs) all zero v at = subst (Cached F) (same_Some _ _ at) (h a (all zero a refl))
mapped F f h (a ∷ vs) all (suc k) v at = mapped F f h vs (λ j u is. all (suc j) u is) k v at

-- at the subscriptions of a name
named_mapped : (F : CachedSnapshot → Type 0) (n : List ℕ) (f : Subscription → Subscription) → ((v : Subscription) → Cached F v → Cached F (f v)) → (vs : List Subscription)
    → AllCached F vs → AllCached F (map (λ (s : Subscription). if bytes_eq s.name n then f s else s) vs)
named_mapped F n f h vs all = mapped F _ (λ v p. on_if (Cached F) (bytes_eq v.name n) (f v) v (h v p) p) vs all

none_in : (F : CachedSnapshot → Type 0) → AllIn F []
none_in F k c at = absurd (none-some c at)

one_more : (F : CachedSnapshot → Type 0) (vs : List Subscription) (u : Subscription) → AllCached F vs → Cached F u → AllCached F (vs ++ u ∷ [])
one_more F vs u all new k v at =
    elim (get_push vs u k v at) [
      | inl old ↦ all k v old.1
      | inr last ↦ subst (Cached F) last.1 new
    ]

pub written_cached : (F : CachedSnapshot → Type 0) (per : ℕ) (b : Broker) (w : Write) → AllCached F b.subs → AllCached F (written per b w).subs
written_cached F per b (write.Create n kind replicated latest) all =
    on_if (λ (c : Broker). AllCached F c.subs) (is_some (sub_named b.subs n)) _ _ all
    (one_more F b.subs (new_subscription n kind replicated (if latest then below (length b.entries) else [])) all (none_in F))
written_cached F per b (write.Alter n kind replicated) all =
    named_mapped F n (λ (s : Subscription). record s { kind = kind; replicated = replicated }) (λ v p. p) b.subs all
written_cached F per b (write.Delete n) all = λ k v at.
    let s = (from_filter (λ (s : Subscription). not (bytes_eq s.name n)) b.subs v (record { place = k; is = at })).stands in all s.place v s.is
written_cached F per b (write.Acks n is) all = named_mapped F n (with_acks is) (λ v p. p) b.subs all
written_cached F per b (write.Seek n i) all = named_mapped F n (sought i) (λ v p. p) b.subs all
written_cached F per b (write.Append e) all = all
written_cached F per b (write.ReplicatorAck y i) all = all
written_cached F per b (write.SessionNumber y n) all = all
written_cached F per b write.Ledger all = all

pub all_written_cached : (F : CachedSnapshot → Type 0) (per : ℕ) (b : Broker) (ws : List Write) → AllCached F b.subs → AllCached F (all_written per b ws).subs
all_written_cached F per b [] all = all
all_written_cached F per b (w ∷ ws) all = all_written_cached F per (written per b w) ws (written_cached F per b w all)

-- what a change may bring into a cache
abbrev pub Brings : (CachedSnapshot → Type 0) → Change → Type 0
Brings F (change.Cache n c) = F c
Brings F c = Unit {0}

dropped : (F : CachedSnapshot → Type 0) (cs : List CachedSnapshot) → AllIn F cs → AllIn F (drop 1 cs)
dropped F [] all = all
dropped F (c ∷ cs) all = λ k d at. all (suc k) d at

pushed : (F : CachedSnapshot → Type 0) (cs : List CachedSnapshot) (c : CachedSnapshot) → AllIn F cs → F c → AllIn F (cs ++ c ∷ [])
pushed F cs c all new k d at =
    elim (get_push cs c k d at) [
      | inl old ↦ all k d old.1
      | inr last ↦ subst F last.1 new
    ]

pub cached_all : (F : CachedSnapshot → Type 0) (cs : List CachedSnapshot) (c : CachedSnapshot) → AllIn F cs → F c → AllIn F (cached cs c)
cached_all F cs c all new =
    on_if (AllIn F) (nat_lt (length cs) most_cached) _ _ (pushed F cs c all new) (pushed F (drop 1 cs) c (dropped F cs all) new)

not_passed_all : (F : CachedSnapshot → Type 0) (m : ℕ) (cs : List CachedSnapshot) → AllIn F cs → AllIn F (not_passed m cs)
not_passed_all F m [] all = all
not_passed_all F m (c ∷ cs) all = on_if (AllIn F) (any_passed m (c ∷ cs)) _ _ (not_passed_all F m cs (λ k d at. all (suc k) d at)) all

acked_all : (F : CachedSnapshot → Type 0) (v : Subscription) → Cached F v → Cached F (after_acks v)
acked_all F v all = on_if (AllIn F) v.replicated (not_passed (mark v.cursor) v.cache) v.cache (not_passed_all F (mark v.cursor) v.cache all) all

pub changed_cached : (F : CachedSnapshot → Type 0) (b : Broker) (c : Change) → Brings F c → AllCached F b.subs → AllCached F (changed b c).subs
changed_cached F b (change.Attach n k) new all = named_mapped F n (attached k) (λ v p. p) b.subs all
changed_cached F b (change.Detach c) new all = mapped F (detached c) (λ v p. p) b.subs all
changed_cached F b (change.Permit n c permits) new all = named_mapped F n (permitted c permits) (λ v p. p) b.subs all
changed_cached F b (change.Skipped n i) new all = named_mapped F n (skipped_index i) (λ v p. p) b.subs all
changed_cached F b (change.Given n i at) new all = named_mapped F n (given i at) (λ v p. p) b.subs all
changed_cached F b (change.Cache n c) new all =
    named_mapped F n (λ (s : Subscription). record s { cache = cached s.cache c }) (λ v p. cached_all F v.cache c p new) b.subs all
changed_cached F b (change.Acked n) new all = named_mapped F n after_acks (acked_all F) b.subs all
changed_cached F b (change.Cleared n) new all = named_mapped F n cleared (λ v p. none_in F) b.subs all
changed_cached F b change.Forget new all = mapped F cleared (λ v p. none_in F) b.subs all
changed_cached F b (change.Receiver x r) new all = all
changed_cached F b c new all = all

pub all_changed_cached : (F : CachedSnapshot → Type 0) (b : Broker) (cs : List Change) → Each (Brings F) cs → AllCached F b.subs → AllCached F (all_changed b cs).subs
all_changed_cached F b [] new all = all
all_changed_cached F b (c ∷ cs) new all = all_changed_cached F (changed b c) cs new.1 (changed_cached F b c new.0 all)
