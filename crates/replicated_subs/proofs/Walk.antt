-- What an update passes over, as a walk from index to index.
use Rattle.std.proofs.Common.{◌≡◌, ℕ, zero, suc, ◌+◌, ◌-◌, ◌<◌, ◌≤◌, ◌==◌, nat_lt, Bool, true, false, List, [], ◌∷◌, ◌++◌, inl, inr, length, refl, arith, ap, sym, ◌∙◌}
use Rattle.std.specs.Prelude.{◌||◌, ◌&&◌, if◌then◌else◌, min, nat_le, slice_get}
use Rattle.std.proofs.lemmas.Bool.{cases_lt}
use Rattle.std.proofs.lemmas.Bool.Decides.{nat_tests}
use Rattle.geo_base.specs.declared.entry.Entry.{Entry}
use Rattle.geo_base.specs.Cursor.{has, with_index, with_indexes}
use Rattle.geo_base.specs.Updating.{updated_indexes, is_updated}
use Rattle.cursor_acks.specs.Acks.{IsFirstOpen, has_before, stands_alone}
use Rattle.cursor_acks.proofs.Sets.{has_with_indexes}
use Rattle.replicated_subs.specs.Alone.{alone, joins, is_some_updated, reaches_none}

-- those of the n indexes from k on that pass a test
abbrev pub walk : (ℕ → Bool) → ℕ → ℕ → List ℕ
walk p k zero = []
walk p k (suc n) = if p k then k ∷ walk p (k + 1) n else walk p (k + 1) n

abbrev pub is_passed : ℕ → List Entry → ℕ → Bool
is_passed y es i = is_some_updated y (slice_get es i)

walk_none : (p : ℕ → Bool) (k n : ℕ) → ((i : ℕ) → k ≤ i → p i ≡ false) → walk p k n ≡ []
walk_none p k zero h = refl
walk_none p k (suc n) h = rw (h k (omega arith)) (walk_none p (k + 1) n (λ i le. h i (omega arith)))

passed_walk_from : (y : ℕ) (p : ℕ → Bool) (k n : ℕ) (es : List Entry) → ((i j : ℕ) → j ≡ k + i → p j ≡ is_some_updated y (slice_get es i)) → updated_indexes y k n es ≡ walk p k n
passed_walk_from y p k zero es h = refl
passed_walk_from y p k (suc n) [] h = sym (walk_none p k (suc n) (λ i le. h (i - k) i (omega arith)))
passed_walk_from y p k (suc n) (e ∷ es) h =
    let first : p k ≡ is_updated y e = h 0 k (omega arith) in
    let rest = passed_walk_from y p (k + 1) n es (λ i j f. h (suc i) j (omega (arith, f))) in
    rw (first, rest) refl

pub passed_walk : (y n : ℕ) (es : List Entry) → updated_indexes y 0 n es ≡ walk (is_passed y es) 0 n
passed_walk y n es = passed_walk_from y (is_passed y es) 0 n es (λ i j f. ap (λ z. is_some_updated y (slice_get es z)) (omega (arith, f)))

-- one step of a walk that ends before an index
walk_next : (p : ℕ → Bool) (k end : ℕ) → k < end → walk p k (end - k) ≡ (if p k then k ∷ walk p (k + 1) (end - (k + 1)) else walk p (k + 1) (end - (k + 1)))
walk_next p k end h =
    let more : end - k ≡ suc (end - (k + 1)) = omega arith in
    rw more refl

walk_over : (p : ℕ → Bool) (k end : ℕ) → end ≤ k → walk p k (end - k) ≡ []
walk_over p k end h =
    let none : end - k ≡ 0 = omega arith in
    rw none refl

-- to acknowledge once again changes nothing
abbrev pub IsStill : List ℕ → Type 0
IsStill set = (i : ℕ) → has set i ≡ true → with_index set i ≡ set

-- what is left of a walk whose next index is acknowledged, does what is left after that index
acked_if : (b : Bool) (set : List ℕ) (k : ℕ) (rest : List ℕ) → with_index set k ≡ set → with_indexes set (if b then k ∷ rest else rest) ≡ with_indexes set rest
acked_if true set k rest h = ap (λ s. with_indexes s rest) h
acked_if false set k rest h = refl

alone_if : (b : Bool) (set : List ℕ) (k : ℕ) (rest : List ℕ) → has set k ≡ true → with_index set k ≡ set → alone set (if b then k ∷ rest else rest) ≡ alone set rest
alone_if true set k rest e h =
    let near : stands_alone set k ≡ false = grind (arith, e) in
    rw (near, h) (omega arith)
alone_if false set k rest e h = refl

over_acked : (p : ℕ → Bool) (set : List ℕ) (k end : ℕ) → has set k ≡ true → with_index set k ≡ set → with_indexes set (walk p k (end - k)) ≡ with_indexes set (walk p (k + 1) (end - (k + 1)))
over_acked p set k end e h = elim (cases_lt k end) [
  | inl lt ↦ rw (walk_next p k end lt) (acked_if (p k) set k (walk p (k + 1) (end - (k + 1))) h)
  | inr le ↦ rw (walk_over p k end le, walk_over p (k + 1) end (omega arith)) refl
]

over_alone : (p : ℕ → Bool) (set : List ℕ) (k end : ℕ) → has set k ≡ true → with_index set k ≡ set → alone set (walk p k (end - k)) ≡ alone set (walk p (k + 1) (end - (k + 1)))
over_alone p set k end e h = elim (cases_lt k end) [
  | inl lt ↦ rw (walk_next p k end lt) (alone_if (p k) set k (walk p (k + 1) (end - (k + 1))) e h)
  | inr le ↦ rw (walk_over p k end le, walk_over p (k + 1) end (omega arith)) refl
]

-- what is the same one index further is the same where the next open index is
further : {X : Type 0} (f : ℕ → X) (set : List ℕ) (k d a : ℕ) → a ≡ k + d → ((j : ℕ) → k ≤ j → j < a → has set j ≡ true) → ((j : ℕ) → has set j ≡ true → f j ≡ f (j + 1)) → f k ≡ f a
further f set k zero a e h s = ap f (omega (arith, e))
further f set k (suc d) a e h s =
    s k (h k (omega arith) (omega (arith, e))) ∙ further f set (k + 1) d a (omega (arith, e)) (λ j le lt. h j (omega arith) lt) s

pub to_open : {X : Type 0} (f : ℕ → X) (set : List ℕ) (k a : ℕ) → IsFirstOpen set k a → ((j : ℕ) → has set j ≡ true → f j ≡ f (j + 1)) → f k ≡ f a
to_open f set k a o s = further f set k (a - k) a (omega (arith, o.reached)) o.least s

pub acked_to_open : (p : ℕ → Bool) (set : List ℕ) (k a end : ℕ) → IsStill set → IsFirstOpen set k a → with_indexes set (walk p k (end - k)) ≡ with_indexes set (walk p a (end - a))
acked_to_open p set k a end h o =
    to_open (λ j. with_indexes set (walk p j (end - j))) set k a o (λ j e. over_acked p set j end e (h j e))

pub alone_to_open : (p : ℕ → Bool) (set : List ℕ) (k a end : ℕ) → IsStill set → IsFirstOpen set k a → alone set (walk p k (end - k)) ≡ alone set (walk p a (end - a))
alone_to_open p set k a end h o =
    to_open (λ j. alone set (walk p j (end - j))) set k a o (λ j e. over_alone p set j end e (h j e))

-- the cursor once all indexes below one are passed over that are to be
abbrev pub so_far : (ℕ → Bool) → List ℕ → ℕ → List ℕ
so_far p set k = with_indexes set (walk p 0 k)

walk_snoc : (p : ℕ → Bool) (k n : ℕ) → walk p k (suc n) ≡ walk p k n ++ (if p (k + n) then (k + n) ∷ [] else [])
walk_snoc p k zero =
    let same : k + 0 ≡ k = omega arith in
    rw same refl
walk_snoc p k (suc n) =
    let same : k + 1 + n ≡ k + suc n = omega arith in
    rw same at (snoc_if (p k) k (walk p (k + 1) (suc n)) (walk p (k + 1) n) (if p (k + 1 + n) then (k + 1 + n) ∷ [] else []) (walk_snoc p (k + 1) n))
  where
    snoc_if : (b : Bool) (i : ℕ) (xs ys zs : List ℕ) → xs ≡ ys ++ zs → (if b then i ∷ xs else xs) ≡ (if b then i ∷ ys else ys) ++ zs
    snoc_if true i xs ys zs h = ap (λ l. i ∷ l) h
    snoc_if false i xs ys zs h = h

with_append : (set xs ys : List ℕ) → with_indexes set (xs ++ ys) ≡ with_indexes (with_indexes set xs) ys
with_append set [] ys = refl
with_append set (x ∷ xs) ys = with_append (with_index set x) xs ys

next_if : (b : Bool) (set : List ℕ) (k : ℕ) → with_indexes set (if b then k ∷ [] else []) ≡ (if b then with_index set k else set)
next_if true set k = refl
next_if false set k = refl

so_far_next : (p : ℕ → Bool) (set : List ℕ) (k : ℕ) → so_far p set (k + 1) ≡ (if p k then with_index (so_far p set k) k else so_far p set k)
so_far_next p set k =
    let next : k + 1 ≡ suc k = omega arith in
    let here : 0 + k ≡ k = omega arith in
    rw next (ap (λ l. with_indexes set l) (rw here at (walk_snoc p 0 k))
    ∙ with_append set (walk p 0 k) (if p k then k ∷ [] else [])
    ∙ next_if (p k) (so_far p set k) k)

has_if : (b : Bool) (i : ℕ) (xs : List ℕ) (j : ℕ) → has (if b then i ∷ xs else xs) j ≡ ((b && (i == j)) || has xs j)
has_if true i xs j = refl
has_if false i xs j = refl

has_walk : (p : ℕ → Bool) (k n j : ℕ) → has (walk p k n) j ≡ (nat_le k j && (nat_lt j (k + n) && p j))
has_walk p k zero j = grind (arith, nat_tests)
has_walk p k (suc n) j =
    let same : (k == j) ≡ true → p k ≡ p j = λ e. ap p (grind (arith, nat_tests, e)) in
    has_if (p k) k (walk p (k + 1) n) j ∙ grind (arith, nat_tests, has_walk p (k + 1) n j, same)

has_so_far : (p : ℕ → Bool) (set : List ℕ) (k j : ℕ) → has (so_far p set k) j ≡ ((nat_lt j k && p j) || has set j)
has_so_far p set k j =
    has_with_indexes set (walk p 0 k) j ∙ grind (arith, nat_tests, has_walk p 0 k j)

-- what one index adds to the count
count_if : (b : Bool) (set : List ℕ) (k : ℕ) (rest : List ℕ) → alone set (if b then k ∷ rest else rest) ≡ (if b && stands_alone set k then 1 else 0) + alone (if b then with_index set k else set) rest
count_if true set k rest = refl
count_if false set k rest = omega arith

pub count_next : (p : ℕ → Bool) (set : List ℕ) (k end : ℕ) → k < end → alone (so_far p set k) (walk p k (end - k)) ≡ (if p k && stands_alone (so_far p set k) k then 1 else 0) + alone (so_far p set (k + 1)) (walk p (k + 1) (end - (k + 1)))
count_next p set k end lt =
    rw (walk_next p k end lt, so_far_next p set k) (count_if (p k) (so_far p set k) k (walk p (k + 1) (end - (k + 1))))

count_over : (p : ℕ → Bool) (set : List ℕ) (k end : ℕ) → has set k ≡ true → alone (so_far p set k) (walk p k (end - k)) ≡ alone (so_far p set (k + 1)) (walk p (k + 1) (end - (k + 1)))
count_over p set k end e = elim (cases_lt k end) [
  | inl lt ↦
      let near : stands_alone (so_far p set k) k ≡ false = grind (arith, has_so_far p set k k, e) in
      count_next p set k end lt ∙ grind (arith, near)
  | inr le ↦ rw (walk_over p k end le, walk_over p (k + 1) end (omega arith)) refl
]

pub count_to_open : (p : ℕ → Bool) (set : List ℕ) (k a end : ℕ) → IsFirstOpen set k a → alone (so_far p set k) (walk p k (end - k)) ≡ alone (so_far p set a) (walk p a (end - a))
count_to_open p set k a end o =
    to_open (λ j. alone (so_far p set j) (walk p j (end - j))) set k a o (λ j e. count_over p set j end e)

joins_is : (y : ℕ) (es : List Entry) (set : List ℕ) (k : ℕ) → has_before (so_far (is_passed y es) set k) k ≡ joins y es set k
joins_is y es set zero = refl
joins_is y es set (suc i) = grind (arith, nat_tests, has_so_far (is_passed y es) set (suc i) i)

-- an index stands alone where the index below it is neither acknowledged nor passed over, and the one above not acknowledged
pub alone_is : (y : ℕ) (es : List Entry) (set : List ℕ) (k : ℕ) → has set k ≡ false → stands_alone (so_far (is_passed y es) set k) k ≡ reaches_none y es set k
alone_is y es set k e =
    let own = has_so_far (is_passed y es) set k k in
    let above = has_so_far (is_passed y es) set k (k + 1) in
    grind (arith, nat_tests, joins_is y es set k, own, above, e)

-- an update passes over nothing past the end of the topic
passed_min : (y k n : ℕ) (es : List Entry) → updated_indexes y k (min n (length es)) es ≡ updated_indexes y k n es
passed_min y k zero es =
    let none : min 0 (length es) ≡ 0 = omega arith in
    rw none refl
passed_min y k (suc n) [] =
    let none : min (suc n) 0 ≡ 0 = omega arith in
    rw none refl
passed_min y k (suc n) (e ∷ es) =
    let more : min (suc n) (length (e ∷ es)) ≡ suc (min n (length es)) = omega arith in
    rw (more, passed_min y (k + 1) n es) refl

pub passed_walk_min : (y n end : ℕ) (es : List Entry) → end ≡ min n (length es) → updated_indexes y 0 n es ≡ walk (is_passed y es) 0 end
passed_walk_min y n end es e = rw e (sym (passed_min y 0 n es) ∙ passed_walk y (min n (length es)) es)

-- the count of `runs`: at its start, and at each step
pub count_start : (y : ℕ) (es : List Entry) (set : List ℕ) (n a end : ℕ) → end ≡ min n (length es) → IsFirstOpen set 0 a → 0 + alone (so_far (is_passed y es) set a) (walk (is_passed y es) a (end - a)) ≡ alone set (updated_indexes y 0 n es)
count_start y es set n a end e o =
    let all : end - 0 ≡ end = omega arith in
    let rest = rw all at (count_to_open (is_passed y es) set 0 a end o) in
    let whole = ap (λ is. alone set is) (passed_walk_min y n end es e) in
    omega (arith, rest, whole)

pub count_step : (y : ℕ) (es : List Entry) (set : List ℕ) (n k a end total : ℕ) → k < end → has set k ≡ false → IsFirstOpen set (k + 1) a → n + alone (so_far (is_passed y es) set k) (walk (is_passed y es) k (end - k)) ≡ total → n + (if is_some_updated y (slice_get es k) && reaches_none y es set k then 1 else 0) + alone (so_far (is_passed y es) set a) (walk (is_passed y es) a (end - a)) ≡ total
count_step y es set n k a end total lt out o h =
    let next = count_next (is_passed y es) set k end lt in
    let same = alone_is y es set k out in
    let rest = count_to_open (is_passed y es) set (k + 1) a end o in
    omega (arith, h, rw same at next, rest)

pub at_most_one : (b : Bool) (n : ℕ) → n ≡ (if b then 1 else 0) → n ≤ 1
at_most_one true n e = omega (arith, e)
at_most_one false n e = omega (arith, e)

-- what `apply` has still to do: at its start, and at each step
pub acked_start : (y : ℕ) (es : List Entry) (set : List ℕ) (a end : ℕ) → IsStill set → IsFirstOpen set 0 a → with_indexes set (walk (is_passed y es) a (end - a)) ≡ with_indexes set (updated_indexes y 0 end es)
acked_start y es set a end h o =
    let all : end - 0 ≡ end = omega arith in
    sym (rw all at (acked_to_open (is_passed y es) set 0 a end h o)) ∙ ap (λ is. with_indexes set is) (sym (passed_walk y end es))

pub room_start : (y : ℕ) (es : List Entry) (set : List ℕ) (a end spare : ℕ) → IsStill set → IsFirstOpen set 0 a → alone set (updated_indexes y 0 end es) ≤ spare → alone set (walk (is_passed y es) a (end - a)) ≤ spare
room_start y es set a end spare h o le =
    let all : end - 0 ≡ end = omega arith in
    let same = rw all at (alone_to_open (is_passed y es) set 0 a end h o) in
    let whole = ap (λ is. alone set is) (passed_walk y end es) in
    omega (arith, le, same, whole)

step_if : (b : Bool) (set : List ℕ) (k : ℕ) (rest : List ℕ) → with_indexes set (if b then k ∷ rest else rest) ≡ with_indexes (if b then with_index set k else set) rest
step_if true set k rest = refl
step_if false set k rest = refl

pub acked_step : (p : ℕ → Bool) (set next : List ℕ) (k a end : ℕ) (total : List ℕ) → k < end → next ≡ (if p k then with_index set k else set) → IsStill next → IsFirstOpen next (k + 1) a → with_indexes set (walk p k (end - k)) ≡ total → with_indexes next (walk p a (end - a)) ≡ total
acked_step p set next k a end total lt e h o rest =
    sym (acked_to_open p next (k + 1) a end h o)
    ∙ ap (λ s. with_indexes s (walk p (k + 1) (end - (k + 1)))) e
    ∙ sym (step_if (p k) set k (walk p (k + 1) (end - (k + 1))))
    ∙ ap (λ is. with_indexes set is) (sym (walk_next p k end lt))
    ∙ rest

pub room_step : (p : ℕ → Bool) (set next : List ℕ) (k a end spare left : ℕ) → k < end → next ≡ (if p k then with_index set k else set) → IsStill next → IsFirstOpen next (k + 1) a → alone set (walk p k (end - k)) ≤ spare → spare ≤ left + (if p k && stands_alone set k then 1 else 0) → alone next (walk p a (end - a)) ≤ left
room_step p set next k a end spare left lt e h o le less =
    let whole = ap (λ is. alone set is) (walk_next p k end lt) ∙ count_if (p k) set k (walk p (k + 1) (end - (k + 1))) in
    let gained = ap (λ s. alone s (walk p (k + 1) (end - (k + 1)))) e in
    let rest = alone_to_open p next (k + 1) a end h o in
    omega (arith, le, less, whole, gained, rest)
