-- A broker sends to its peers alone. For most events the plan shows it. A message goes to a consumer with a permit, and
-- permits are given to consumers of the topic's clients alone.
use Rattle.std.proofs.Common.{◌≡◌, ℕ, zero, suc, ◌+◌, ◌-◌, ◌<◌, ◌≤◌, Bool, true, false, List, [], ◌∷◌, ◌++◌, length, map, filter, min, refl, sym, subst, arith, nat_lt, not}
use Rattle.std.specs.Str.{bytes_eq}
use Rattle.std.specs.Prelude.{Some, None, if◌then◌else◌, drop, find, take, is_some, slice_index_or, slice_set, ◌%◌}
use Rattle.std.proofs.lemmas.Bool.{eqb-true, ltb-true}
use Rattle.std.proofs.lemmas.Option.{none-some, same_Some}
use Rattle.world_laws.proofs.Types.{Change, Consumer, SubKind, Write}
use Rattle.world_laws.proofs.Types.change
use Rattle.world_laws.proofs.Types.sub_kind
use Rattle.world_laws.proofs.Types.write
use Rattle.geo_base.specs.Broker.{Broker, at_sub, changed, sub_named, written}
use Rattle.geo_base.specs.Dispatcher.{consumer_at, first_permitted, given, if_permitted, key_number, pick, served, used}
use Rattle.geo_base.specs.Plan.{Plan, all_changed, all_written, done}
use Rattle.geo_base.specs.Subscription.{Subscription, attached, detached, is_of, most_permits, new_subscription, permitted}
use Rattle.world_laws.proofs.Replicating.Effects.{Each, each_both, each_take}
use Rattle.world_laws.proofs.Walks.Walk.{on_if, on_test}

pub each_filter : {X : Type 0} (P : X → Type 0) (p : X → Bool) (xs : List X) → Each P xs → Each P (filter p xs)
each_filter P p [] h = tt
each_filter P p (x ∷ xs) h = on_if (Each P) (p x) (x ∷ filter p xs) (filter p xs) (h.0, each_filter P p xs h.1) (each_filter P p xs h.1)

each_mapped : {X : Type 0} (P : X → Type 0) (f : X → X) → ((x : X) → P x → P (f x)) → (xs : List X) → Each P xs → Each P (map f xs)
each_mapped P f k [] h = tt
each_mapped P f k (x ∷ xs) h = (k x h.0, each_mapped P f k xs h.1)

each_drop : {X : Type 0} (P : X → Type 0) (n : ℕ) (xs : List X) → Each P xs → Each P (drop n xs)
each_drop P zero xs h = h
each_drop P (suc n) [] h = tt
each_drop P (suc n) (x ∷ xs) h = each_drop P n xs h.1

each_set : {X : Type 0} (P : X → Type 0) (xs : List X) (i : ℕ) (v : X) → Each P xs → P v → Each P (slice_set xs i v)
each_set P [] i v h p = tt
each_set P (x ∷ xs) zero v h p = (p, h.1)
each_set P (x ∷ xs) (suc i) v h p = (h.0, each_set P xs i v h.1 p)

each_at : {X : Type 0} (P : X → Type 0) (xs : List X) (i : ℕ) (d : X) → Each P xs → P d → P (slice_index_or xs i d)
each_at P [] i d h p = p
each_at P (x ∷ xs) zero d h p = h.0
each_at P (x ∷ xs) (suc i) d h p = each_at P xs i d h.1 p

-- a consumer that has permits is of a client that counts
pub record MayHave (C : ℕ → Type 0) (k : Consumer) : Type 0 where
  pub may : 0 < k.permits → C k.client

abbrev pub MayAll : (ℕ → Type 0) → Subscription → Type 0
MayAll C v = Each (MayHave C) v.consumers

abbrev pub AllServed : (ℕ → Type 0) → Broker → Type 0
AllServed C b = Each (MayAll C) b.subs

nobody_has : (C : ℕ → Type 0) → MayHave C (record { client = 0; id = 0; permits = 0 })
nobody_has C = record { may = λ lt. absurd (omega (arith, lt)) }

used_has : (C : ℕ → Type 0) (k : Consumer) → MayHave C k → MayHave C (used k)
used_has C k h = record { may = λ lt. h.may (omega (arith, lt)) }

served_has : (C : ℕ → Type 0) (kind : SubKind) (ks : List Consumer) (i : ℕ) → Each (MayHave C) ks → Each (MayHave C) (served kind ks i)
served_has C sub_kind.Shared ks i h =
    let one : MayHave C (used (consumer_at ks i)) = used_has C _ (each_at (MayHave C) ks i _ h (nobody_has C)) in
    each_both (MayHave C) (take i ks ++ drop (i + 1) ks) (used (consumer_at ks i) ∷ [])
    (each_both (MayHave C) (take i ks) (drop (i + 1) ks) (each_take (MayHave C) i ks h) (each_drop (MayHave C) (i + 1) ks h)) (one, tt)
served_has C sub_kind.Exclusive ks i h = each_set (MayHave C) ks i _ h (used_has C _ (each_at (MayHave C) ks i _ h (nobody_has C)))
served_has C sub_kind.Failover ks i h = each_set (MayHave C) ks i _ h (used_has C _ (each_at (MayHave C) ks i _ h (nobody_has C)))
served_has C sub_kind.KeyShared ks i h = each_set (MayHave C) ks i _ h (used_has C _ (each_at (MayHave C) ks i _ h (nobody_has C)))

permitted_has : (C : ℕ → Type 0) (c n : ℕ) → C c → (k : Consumer) → MayHave C k
    → MayHave C (if is_of c k then record k { permits = min most_permits (k.permits + n) } else k)
permitted_has C c n of k h =
    on_test (MayHave C) (is_of c k) (record k { permits = min most_permits (k.permits + n) }) k
    (λ is. record { may = λ lt. subst C (sym (eqb-true k.client c is)) of }) (λ _. h)

-- what changes the consumers of a subscription
at_sub_has : (C : ℕ → Type 0) (b : Broker) (n : List ℕ) (f : Subscription → Subscription) → ((v : Subscription) → MayAll C v → MayAll C (f v))
    → AllServed C b → AllServed C (at_sub b n f)
at_sub_has C b n f k h =
    each_mapped (MayAll C) (λ (v : Subscription). if bytes_eq v.name n then f v else v)
    (λ v m. on_if (MayAll C) (bytes_eq v.name n) (f v) v (k v m) m) b.subs h

created_has : (C : ℕ → Type 0) (per : ℕ) (b : Broker) (n : List ℕ) (kind : SubKind) (replicated latest : Bool) → AllServed C b
    → AllServed C (written per b (write.Create n kind replicated latest))
created_has C per b n kind replicated latest h =
    on_if (AllServed C) (is_some (sub_named b.subs n)) b _ h
    (each_both (MayAll C) b.subs (new_subscription n kind replicated _ ∷ []) h (tt, tt))

written_has : (C : ℕ → Type 0) (per : ℕ) (b : Broker) (w : Write) → AllServed C b → AllServed C (written per b w)
written_has C per b (write.Create n kind replicated latest) h = created_has C per b n kind replicated latest h
written_has C per b (write.Alter n kind replicated) h = at_sub_has C b n _ (λ v m. m) h
written_has C per b (write.Delete n) h = each_filter (MayAll C) _ b.subs h
written_has C per b (write.Acks n is) h = at_sub_has C b n _ (λ v m. m) h
written_has C per b (write.Seek n i) h = at_sub_has C b n _ (λ v m. m) h
written_has C per b w h = h

all_written_has : (C : ℕ → Type 0) (per : ℕ) (b : Broker) (ws : List Write) → AllServed C b → AllServed C (all_written per b ws)
all_written_has C per b [] h = h
all_written_has C per b (w ∷ ws) h = all_written_has C per (written per b w) ws (written_has C per b w h)

-- changes that give permits to such clients alone
abbrev pub Gives : (ℕ → Type 0) → Change → Type 0
Gives C (change.Attach n k) = MayHave C k
Gives C (change.Permit n c permits) = C c
Gives C c = Unit {0}

changed_has : (C : ℕ → Type 0) (b : Broker) (c : Change) → Gives C c → AllServed C b → AllServed C (changed b c)
changed_has C b (change.Attach n k) g h = at_sub_has C b n (attached k) (λ v m. each_both (MayHave C) v.consumers (k ∷ []) m (g, tt)) h
changed_has C b (change.Detach c) g h =
    each_mapped (MayAll C) (detached c) (λ v m. each_filter (MayHave C) (λ (k : Consumer). not (is_of c k)) v.consumers m) b.subs h
changed_has C b (change.Permit n c permits) g h =
    at_sub_has C b n (permitted c permits)
    (λ v m. each_mapped (MayHave C) (λ (k : Consumer). if is_of c k then record k { permits = min most_permits (k.permits + permits) } else k)
    (permitted_has C c permits g) v.consumers m) h
changed_has C b (change.Skipped n i) g h = at_sub_has C b n _ (λ v m. m) h
changed_has C b (change.Given n i at) g h = at_sub_has C b n (given i at) (λ v m. served_has C v.kind v.consumers at m) h
changed_has C b (change.Cache n c) g h = at_sub_has C b n _ (λ v m. m) h
changed_has C b (change.Acked n) g h = at_sub_has C b n _ (λ v m. m) h
changed_has C b (change.Cleared n) g h = at_sub_has C b n _ (λ v m. tt) h
changed_has C b change.Forget g h = each_mapped (MayAll C) _ (λ v m. tt) b.subs h
changed_has C b c g h = h

all_changed_has : (C : ℕ → Type 0) (b : Broker) (cs : List Change) → Each (Gives C) cs → AllServed C b → AllServed C (all_changed b cs)
all_changed_has C b [] g h = h
all_changed_has C b (c ∷ cs) g h = all_changed_has C (changed b c) cs g.1 (changed_has C b c g.0 h)

pub done_has : (C : ℕ → Type 0) (per : ℕ) (b : Broker) (p : Plan) → Each (Gives C) p.changes → AllServed C b → AllServed C (done per b p)
done_has C per b p g h = all_changed_has C (all_written per b p.writes) p.changes g (all_written_has C per b p.writes h)

-- whom an offer picks has a permit
if_permitted_has : (ks : List Consumer) (i at : ℕ) → if_permitted ks i ≡ Some at → 0 < (consumer_at ks at).permits
if_permitted_has ks i at e = by (nat_lt 0 (consumer_at ks i).permits) refl e
  where
    by : (t : Bool) → nat_lt 0 (consumer_at ks i).permits ≡ t → (if t then Some i else None) ≡ Some at → 0 < (consumer_at ks at).permits
    by true lt e = subst (λ (j : ℕ). 0 < (consumer_at ks j).permits) (same_Some i at e) (ltb-true 0 _ lt)
    by false lt e = absurd (none-some at e)

first_has : (i : ℕ) (ks : List Consumer) (at : ℕ) → first_permitted i ks ≡ Some at → (i ≤ at) × (0 < (consumer_at ks (at - i)).permits)
first_has i [] at e = absurd (none-some at e)
first_has i (k ∷ ks) at e = by (nat_lt 0 k.permits) refl e (first_has (i + 1) ks at)
  where
    by : (t : Bool) → nat_lt 0 k.permits ≡ t → (if t then Some i else first_permitted (i + 1) ks) ≡ Some at
        → (first_permitted (i + 1) ks ≡ Some at → (i + 1 ≤ at) × (0 < (consumer_at ks (at - (i + 1))).permits)) → (i ≤ at) × (0 < (consumer_at (k ∷ ks) (at - i)).permits)
    by true lt e more =
        let same = same_Some i at e in
        let none : 0 ≡ at - i = omega (arith, same) in
        (omega (arith, same), subst (λ (j : ℕ). 0 < (consumer_at (k ∷ ks) j).permits) none (ltb-true 0 _ lt))
    by false lt e more =
        let r = more e in
        let next : suc (at - (i + 1)) ≡ at - i = omega (arith, r.0) in
        (omega (arith, r.0), subst (λ (j : ℕ). 0 < (consumer_at (k ∷ ks) j).permits) next r.1)

pub pick_has : (kind : SubKind) (ks : List Consumer) (key : List ℕ) (at : ℕ) → pick kind ks key ≡ Some at → 0 < (consumer_at ks at).permits
pick_has sub_kind.Exclusive ks key at e = if_permitted_has ks 0 at e
pick_has sub_kind.Failover ks key at e = if_permitted_has ks 0 at e
pick_has sub_kind.Shared ks key at e =
    let none : at - 0 ≡ at = omega arith in
    subst (λ (j : ℕ). 0 < (consumer_at ks j).permits) none (first_has 0 ks at e).1
pick_has sub_kind.KeyShared [] key at e = absurd (none-some at e)
pick_has sub_kind.KeyShared (k ∷ ks) key at e = if_permitted_has (k ∷ ks) (key_number key % length (k ∷ ks)) at e

-- so it is of a client that counts
found_has : (C : ℕ → Type 0) (p : Subscription → Bool) (vs : List Subscription) (v : Subscription) → find p vs ≡ Some v → Each (MayAll C) vs → MayAll C v
found_has C p [] v e h = absurd (none-some v e)
found_has C p (u ∷ vs) v e h = by (p u) e (λ e'. found_has C p vs v e' h.1)
  where
    by : (t : Bool) → (if t then Some u else find p vs) ≡ Some v → (find p vs ≡ Some v → MayAll C v) → MayAll C v
    by true e more = subst (MayAll C) (same_Some u v e) h.0
    by false e more = more e

pub picked_counts : (C : ℕ → Type 0) (b : Broker) (n : List ℕ) (v : Subscription) (key : List ℕ) (at : ℕ) → AllServed C b → sub_named b.subs n ≡ Some v
    → pick v.kind v.consumers key ≡ Some at → C (consumer_at v.consumers at).client
picked_counts C b n v key at h named is =
    (each_at (MayHave C) v.consumers at _ (found_has C _ b.subs v named h) (nobody_has C)).may (pick_has v.kind v.consumers key at is)
