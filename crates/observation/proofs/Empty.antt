-- Lists of findings that are empty: each of their parts is.
use Rattle.std.proofs.Common.{◌≡◌, ℕ, zero, suc, ◌+◌, ◌<◌, Bool, true, false, cond, List, [], ◌∷◌, ◌++◌, length, refl, sym, ap, subst, ◌∙◌, ◌==◌, arith}
use Rattle.std.specs.Prelude.{◌≢◌, if◌then◌else◌, Some, slice_get, take}
use Rattle.std.specs.List.{list_all}
use Rattle.std.proofs.lemmas.Bool.{and_from, and_parts, eq-eqb, eqb-true, false≢true}
use Rattle.std.proofs.lemmas.Option.{none-some, same_Some, slice_get_within}
use Rattle.geo_base.specs.Setup.{Setup}
use Rattle.observation.specs.declared.finding.Finding.{Finding}
use Rattle.observation.specs.Findings.{by_cluster, by_other, by_topic, each_at, unless}
pub use Rattle.geo_base.proofs.Lists.{get_of_take as of_take, get_some_below as there_is}

pub both_empty : {A : Type 0} (xs ys : List A) → xs ++ ys ≡ [] → (xs ≡ []) × (ys ≡ [])
both_empty [] ys h = (refl, h)
both_empty (x ∷ xs) ys h = let e : length (x ∷ (xs ++ ys)) ≡ 0 = ap length h in absurd (omega (arith, e))

pub empty_both : {A : Type 0} (xs ys : List A) → xs ≡ [] → ys ≡ [] → xs ++ ys ≡ []
empty_both xs ys h g = ap (λ l. l ++ ys) h ∙ g

pub not_empty : (f : Finding) (fs : List Finding) → f ∷ fs ≡ [] → ⊥
not_empty f fs h = let e : length (f ∷ fs) ≡ 0 = ap length h in absurd (omega (arith, e))

-- at each place
pub none_at : {A : Type 0} (f : ℕ → A → List Finding) (i : ℕ) (xs : List A) (k : ℕ) (a : A) → each_at f i xs ≡ [] → slice_get xs k ≡ Some a → f (i + k) a ≡ []
none_at f i [] k a h at = absurd (none-some a at)
none_at f i (b ∷ xs) zero a h at =
    let e : i ≡ i + zero = omega arith in
    subst (λ (n : ℕ). f n a ≡ []) e (subst (λ c. f i c ≡ []) (same_Some _ _ at) (both_empty (f i b) (each_at f (i + 1) xs) h).0)
none_at f i (b ∷ xs) (suc k) a h at =
    let e : (i + 1) + k ≡ i + suc k = omega arith in
    subst (λ (n : ℕ). f n a ≡ []) e (none_at f (i + 1) xs k a (both_empty (f i b) (each_at f (i + 1) xs) h).1 at)

pub none_here : {A : Type 0} (f : ℕ → A → List Finding) (xs : List A) (k : ℕ) (a : A) → each_at f 0 xs ≡ [] → slice_get xs k ≡ Some a → f k a ≡ []
none_here f xs k a h at = let e : 0 + k ≡ k = omega arith in subst (λ (n : ℕ). f n a ≡ []) e (none_at f 0 xs k a h at)

pub all_none : {A : Type 0} (f : ℕ → A → List Finding) (i : ℕ) (xs : List A) → ((k : ℕ) (a : A) → slice_get xs k ≡ Some a → f (i + k) a ≡ []) → each_at f i xs ≡ []
all_none f i [] h = refl
all_none f i (b ∷ xs) h =
    let e : i + zero ≡ i = omega arith in
    empty_both (f i b) (each_at f (i + 1) xs) (subst (λ (n : ℕ). f n b ≡ []) e (h zero b refl))
    (all_none f (i + 1) xs (λ k a at. let g : i + suc k ≡ (i + 1) + k = omega arith in subst (λ (n : ℕ). f n a ≡ []) g (h (suc k) a at)))

pub here_none : {A : Type 0} (f : ℕ → A → List Finding) (xs : List A) → ((k : ℕ) (a : A) → slice_get xs k ≡ Some a → f k a ≡ []) → each_at f 0 xs ≡ []
here_none f xs h = all_none f 0 xs (λ k a at. let e : k ≡ 0 + k = omega arith in subst (λ (n : ℕ). f n a ≡ []) e (h k a at))

numbered_none : {A : Type 0} (f : ℕ → List Finding) (xs : List A) (t : ℕ) → each_at (λ k a. f k) 0 xs ≡ [] → t < length xs → f t ≡ []
numbered_none f xs t h lt = let a = there_is xs t lt in none_here (λ k a. f k) xs t a.0 h a.1

numbered_all : {A : Type 0} (f : ℕ → List Finding) (xs : List A) → ((t : ℕ) → t < length xs → f t ≡ []) → each_at (λ k a. f k) 0 xs ≡ []
numbered_all f xs h = here_none (λ k a. f k) xs (λ k a at. h k (slice_get_within xs k a at))

pub topic_none : (s : Setup) (f : ℕ → List Finding) (t : ℕ) → by_topic s f ≡ [] → t < length s.topics → f t ≡ []
topic_none s f t h lt = numbered_none f s.topics t h lt

pub topics_none : (s : Setup) (f : ℕ → List Finding) → ((t : ℕ) → t < length s.topics → f t ≡ []) → by_topic s f ≡ []
topics_none s f h = numbered_all f s.topics h

pub cluster_none : (s : Setup) (f : ℕ → List Finding) (x : ℕ) → by_cluster s f ≡ [] → x < length s.clusters → f x ≡ []
cluster_none s f x h lt = numbered_none f s.clusters x h lt

pub clusters_none : (s : Setup) (f : ℕ → List Finding) → ((x : ℕ) → x < length s.clusters → f x ≡ []) → by_cluster s f ≡ []
clusters_none s f h = numbered_all f s.clusters h

pub other_none : (s : Setup) (x : ℕ) (f : ℕ → List Finding) (y : ℕ) → by_other s x f ≡ [] → y < length s.clusters → x ≢ y → f y ≡ []
other_none s x f y h lt differ = go (x == y) refl (cluster_none s (λ (z : ℕ). if x == z then [] else f z) y h lt)
  where
    go : (b : Bool) → (x == y) ≡ b → cond b [] (f y) ≡ [] → f y ≡ []
    go true is e = absurd (differ (eqb-true x y is))
    go false is e = e

pub others_none : (s : Setup) (x : ℕ) (f : ℕ → List Finding) → ((y : ℕ) → y < length s.clusters → x ≢ y → f y ≡ []) → by_other s x f ≡ []
others_none s x f h = clusters_none s (λ (z : ℕ). if x == z then [] else f z) (λ y lt. go y (x == y) refl lt)
  where
    go : (y : ℕ) (b : Bool) → (x == y) ≡ b → y < length s.clusters → cond b [] (f y) ≡ []
    go y true is lt = refl
    go y false is lt = h y lt (λ e. false≢true (sym is ∙ eq-eqb x y e))

-- one finding, unless something holds
pub held : (b : Bool) (f : Finding) → unless b f ≡ [] → b ≡ true
held true f h = refl
held false f h = absurd (not_empty f [] h)

pub unless_held : (b : Bool) (f : Finding) → b ≡ true → unless b f ≡ []
unless_held true f h = refl
unless_held false f h = absurd (false≢true h)

-- ---- tests over lists

pub all_of : {X : Type 0} (p : X → Bool) (xs : List X) → ((i : ℕ) (x : X) → slice_get xs i ≡ Some x → p x ≡ true) → list_all p xs ≡ true
all_of p [] h = refl
all_of p (x ∷ xs) h = and_from (p x) (list_all p xs) (h zero x refl) (all_of p xs (λ i y at. h (suc i) y at))

pub all_at : {X : Type 0} (p : X → Bool) (xs : List X) (i : ℕ) (x : X) → list_all p xs ≡ true → slice_get xs i ≡ Some x → p x ≡ true
all_at p [] i x h at = absurd (none-some x at)
all_at p (a ∷ xs) zero x h at = subst (λ y. p y ≡ true) (same_Some _ _ at) (and_parts (p a) (list_all p xs) h).0
all_at p (a ∷ xs) (suc i) x h at = all_at p xs i x (and_parts (p a) (list_all p xs) h).1 at

pub in_take : {X : Type 0} (n : ℕ) (xs : List X) (i : ℕ) (x : X) → i < n → slice_get xs i ≡ Some x → slice_get (take n xs) i ≡ Some x
in_take zero xs i x lt at = absurd (omega (arith, lt))
in_take (suc n) [] i x lt at = absurd (none-some x at)
in_take (suc n) (a ∷ xs) zero x lt at = at
in_take (suc n) (a ∷ xs) (suc i) x lt at = in_take n xs i x (omega (arith, lt)) at
