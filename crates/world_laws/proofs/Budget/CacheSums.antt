-- What acknowledgements leave of the caches of a broker's subscriptions: no more than there was, and less where an update follows.
use Rattle.std.proofs.Common.{◌≡◌, ℕ, ◌<◌, ◌≤◌, Bool, true, false, List, [], ◌∷◌, length, map, refl, sym, ap, subst, arith}
use Rattle.std.specs.Prelude.{Option, Some, None, if◌then◌else◌, ◌||◌, nat_lt}
use Rattle.std.specs.Str.{bytes_eq}
use Rattle.std.proofs.lemmas.Option.{none-some, same_Some}
use Rattle.world_laws.proofs.Types.{CachedSnapshot, Cut}
use Rattle.geo_base.specs.Broker.{sub_named}
use Rattle.geo_base.specs.Cache.{any_passed, last_passed, not_passed}
use Rattle.geo_base.specs.Cursor.{mark}
use Rattle.geo_base.specs.Subscription.{Subscription, after_acks, with_acks}
use Rattle.world_laws.proofs.Walks.Walk.{on_if}
use Rattle.world_laws.proofs.Budget.Weights.{cached_in}

not_passed_le : (m : ℕ) (cs : List CachedSnapshot) → length (not_passed m cs) ≤ length cs
not_passed_le m [] = omega arith
not_passed_le m (c ∷ cs) =
    on_if (λ (l : List CachedSnapshot). length l ≤ length (c ∷ cs)) (any_passed m (c ∷ cs)) (not_passed m cs) (c ∷ cs) (omega (arith, not_passed_le m cs)) (omega arith)

-- a snapshot that is passed is among them
some_passed : (a b : Bool) (o : Option Cut) (c cut : Cut) → (if a then o else if b then Some c else None) ≡ Some cut → (b || a) ≡ true
some_passed a true o c cut h = refl
some_passed true false o c cut h = refl
some_passed false false o c cut h = absurd (none-some cut h)

not_passed_less : (m : ℕ) (cs : List CachedSnapshot) (cut : Cut) → last_passed m cs ≡ Some cut → length (not_passed m cs) < length cs
not_passed_less m [] cut h = absurd (none-some cut h)
not_passed_less m (c ∷ cs) cut h =
    let is = ap (λ (b : Bool). if b then not_passed m cs else c ∷ cs) (some_passed (any_passed m cs) (nat_lt c.index m) (last_passed m cs) c.cut cut h) in
    let e = ap (λ (l : List CachedSnapshot). length l) is in omega (arith, e, not_passed_le m cs)

-- what is acknowledged on the subscriptions of a name
abbrev pub acks_of : List ℕ → List ℕ → Subscription → Subscription
acks_of n is v = if bytes_eq v.name n then with_acks is v else v

abbrev pub acked_of : List ℕ → Subscription → Subscription
acked_of n v = if bytes_eq v.name n then after_acks v else v

one_le : (n is : List ℕ) (v : Subscription) → length (acked_of n (acks_of n is v)).cache ≤ length v.cache
one_le n is v =
    on_if (λ (u : Subscription). length (acked_of n u).cache ≤ length v.cache) (bytes_eq v.name n) (with_acks is v) v
    (acked_le (with_acks is v)) (acked_le v)
  where
    acked_le : (u : Subscription) → length (acked_of n u).cache ≤ length u.cache
    acked_le u =
        on_if (λ (z : Subscription). length z.cache ≤ length u.cache) (bytes_eq u.name n) (after_acks u) u
        (on_if (λ (l : List CachedSnapshot). length l ≤ length u.cache) u.replicated (not_passed (mark u.cursor) u.cache) u.cache (not_passed_le (mark u.cursor) u.cache) (omega arith))
        (omega arith)

pub caches_le : (n is : List ℕ) (vs : List Subscription) → cached_in (map (acked_of n) (map (acks_of n is) vs)) ≤ cached_in vs
caches_le n is [] = omega arith
caches_le n is (v ∷ vs) = omega (arith, one_le n is v, caches_le n is vs)

-- where the first of them passes a snapshot there is one less
one_less : (n is : List ℕ) (v : Subscription) (cut : Cut) → bytes_eq v.name n ≡ true → v.replicated ≡ true → last_passed (mark (with_acks is v).cursor) v.cache ≡ Some cut
    → length (acked_of n (acks_of n is v)).cache < length v.cache
one_less n is v cut same replicated passed =
    let u = with_acks is v in
    let a = ap (λ (b : Bool). length (acked_of n (if b then u else v)).cache) same in
    let c = ap (λ (b : Bool). length (if b then after_acks u else u).cache) same in
    let d = ap (λ (b : Bool). length (if b then not_passed (mark u.cursor) v.cache else v.cache)) replicated in
    omega (arith, a, c, d, not_passed_less (mark u.cursor) v.cache cut passed)

pub caches_less : (n is : List ℕ) (v : Subscription) (cut : Cut) (vs : List Subscription) → sub_named vs n ≡ Some v → v.replicated ≡ true
    → last_passed (mark (with_acks is v).cursor) v.cache ≡ Some cut → cached_in (map (acked_of n) (map (acks_of n is) vs)) < cached_in vs
caches_less n is v cut [] named replicated passed = absurd (none-some v named)
caches_less n is v cut (w ∷ vs) named replicated passed = by (bytes_eq w.name n) refl named (λ h. caches_less n is v cut vs h replicated passed)
  where
    by : (b : Bool) → bytes_eq w.name n ≡ b → (if b then Some w else sub_named vs n) ≡ Some v
        → (sub_named vs n ≡ Some v → cached_in (map (acked_of n) (map (acks_of n is) vs)) < cached_in vs)
        → cached_in (map (acked_of n) (map (acks_of n is) (w ∷ vs))) < cached_in (w ∷ vs)
    by true same h ih =
        let e : v ≡ w = sym (same_Some _ _ h) in
        let P : Subscription → Type 0 = λ z. z.replicated ≡ true in
        let Q : Subscription → Type 0 = λ z. last_passed (mark (with_acks is z).cursor) z.cache ≡ Some cut in
        omega (arith, one_less n is w cut same (subst P e replicated) (subst Q e passed), caches_le n is vs)
    by false other h ih = omega (arith, one_le n is w, ih h)
