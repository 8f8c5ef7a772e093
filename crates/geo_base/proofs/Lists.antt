-- Lemmas on lists that several crates use, each named by its statement.
use Rattle.std.proofs.Common.{Bool, List, [], ap, arith, drop, false, length, map, refl, suc, sym, take, true, zero, ℕ, ◌++◌, ◌+◌, ◌-◌, ◌<◌, ◌==◌, ◌∙◌, ◌∷◌, ◌≡◌, ◌≤◌}
use Rattle.std.proofs.Math.Seq.{take-append_seam}
use Rattle.std.proofs.lemmas.Bool.{and_from, and_parts, eqb-true}
use Rattle.std.proofs.lemmas.List.{drop_at, length-take, take-append-le, take_at}
use Rattle.std.proofs.lemmas.Option.{none-some}
use Rattle.std.proofs.lemmas.Slice.Eq.{bytes_eq-Decides}
use Rattle.std.specs.List.{AllByRecursion, list_all, range_with_len}
use Rattle.std.specs.Prelude.{None, Some, replicate, slice_get, slice_index, slice_index_or, ◌&&◌}
use Rattle.std.specs.Str.{bytes_eq}

pub length_push : {X : Type 0} (xs : List X) (x : X) → length (xs ++ x ∷ []) ≡ length xs + 1
length_push [] x = refl
length_push (y ∷ xs) x = let rest = length_push xs x in omega (arith, rest)

pub get_below : {X : Type 0} (xs : List X) (n : ℕ) (x : X) → slice_get xs n ≡ Some x → n < length xs
get_below [] n x at = absurd (none-some x at)
get_below (y ∷ xs) zero x at = omega arith
get_below (y ∷ xs) (suc n) x at = let lt = get_below xs n x at in omega (arith, lt)

pub get_none_past : {X : Type 0} (xs : List X) (k : ℕ) → slice_get xs k ≡ None → length xs ≤ k
get_none_past [] k h = omega arith
get_none_past (x ∷ xs) zero h = absurd (none-some x (sym h))
get_none_past (x ∷ xs) (suc k) h = let r = get_none_past xs k h in omega (arith, r)

pub get_some_below : {X : Type 0} (xs : List X) (i : ℕ) → i < length xs → (x : X) × (slice_get xs i ≡ Some x)
get_some_below [] i lt = absurd (omega (arith, lt))
get_some_below (x ∷ xs) zero lt = (x, refl)
get_some_below (x ∷ xs) (suc i) lt = get_some_below xs i (omega (arith, lt))

pub get_pushed : (ns : List (List ℕ)) (n : List ℕ) → slice_get (ns ++ n ∷ []) (length ns) ≡ Some n
get_pushed [] n = refl
get_pushed (m ∷ ns) n = get_pushed ns n

pub get_of_take : {X : Type 0} (n : ℕ) (xs : List X) (i : ℕ) (x : X) → slice_get (take n xs) i ≡ Some x → (i < n) × (slice_get xs i ≡ Some x)
get_of_take zero xs i x at = absurd (none-some x at)
get_of_take (suc n) [] i x at = absurd (none-some x at)
get_of_take (suc n) (a ∷ xs) zero x at = (omega arith, at)
get_of_take (suc n) (a ∷ xs) (suc i) x at = let r = get_of_take n xs i x at in (let lt = r.0 in omega (arith, lt), r.1)

pub index_or_past : {X : Type 0} (xs : List X) (i : ℕ) (d : X) → length xs ≤ i → slice_index_or xs i d ≡ d
index_or_past [] i d le = refl
index_or_past (x ∷ xs) zero d le = absurd (omega (arith, le))
index_or_past (x ∷ xs) (suc i) d le = index_or_past xs i d (omega (arith, le))

pub index_or_pushed : {X : Type 0} (xs : List X) (y d : X) → slice_index_or (xs ++ y ∷ []) (length xs) d ≡ y
index_or_pushed [] y d = refl
index_or_pushed (x ∷ xs) y d = index_or_pushed xs y d

pub index_or_any : {X : Type 0} (xs : List X) (i : ℕ) (d e : X) → i < length xs → slice_index_or xs i d ≡ slice_index_or xs i e
index_or_any [] i d e lt = absurd (omega (arith, lt))
index_or_any (x ∷ xs) zero d e lt = refl
index_or_any (x ∷ xs) (suc i) d e lt = index_or_any xs i d e (omega (arith, lt))

pub index_before_push : (xs : List ℕ) (y i : ℕ) → i < length xs → slice_index (xs ++ y ∷ []) i ≡ slice_index xs i
index_before_push [] y i lt = absurd (omega (arith, lt))
index_before_push (x ∷ xs) y zero lt = refl
index_before_push (x ∷ xs) y (suc i) lt = index_before_push xs y i (omega (arith, lt))

pub index_pushed : (xs : List ℕ) (y i : ℕ) → i ≡ length xs → slice_index (xs ++ y ∷ []) i ≡ y
index_pushed [] y zero is = refl
index_pushed [] y (suc i) is = absurd (omega (arith, is))
index_pushed (x ∷ xs) y zero is = absurd (omega (arith, is))
index_pushed (x ∷ xs) y (suc i) is = index_pushed xs y i (omega (arith, is))

pub empty_by_length : (l : List ℕ) → (length l == 0) ≡ true → l ≡ []
empty_by_length [] e = refl
empty_by_length (x ∷ l) e = absurd (let same : length (x ∷ l) ≡ 0 = eqb-true (length (x ∷ l)) 0 e in omega (arith, same))

pub take_whole : {X : Type 0} (xs : List X) → take (length xs) xs ≡ xs
take_whole [] = refl
take_whole (x ∷ xs) = ap (λ ys. x ∷ ys) (take_whole xs)

pub take_front : (old new added : List ℕ) → new ≡ old ++ added → take (length old) new ≡ old
take_front old new added is = rw is (take-append_seam old added)

pub take_front_still : (old text new added : List ℕ) → new ≡ text ++ added → take (length old) text ≡ old → take (length old) new ≡ old
take_front_still old text new added is stands =
    let long : length old ≤ length text = omega (arith, ap (λ (xs : List ℕ). length xs) stands, length-take (length old) text) in
    rw is (take-append-le (length old) text added long ∙ stands)

pub append_parts : (a b x y : List ℕ) → length a ≡ length b → a ++ x ≡ b ++ y → (a ≡ b) × (x ≡ y)
append_parts a b x y len e = (
  sym (take_at a x (length a) refl) ∙ ap (λ (s : List ℕ). take (length a) s) e ∙ take_at b y (length a) (sym len),
  sym (drop_at a x (length a) refl) ∙ ap (λ (s : List ℕ). drop (length a) s) e ∙ drop_at b y (length a) (sym len),
)

pub length_of_map : {X Y : Type 0} (f : X → Y) (xs : List X) → length (map f xs) ≡ length xs
length_of_map f [] = refl
length_of_map f (x ∷ xs) = ap suc (length_of_map f xs)

pub map_of_copies : {X : Type 0} (f : X → X) (n : ℕ) (x : X) → f x ≡ x → map f (replicate n x) ≡ replicate n x
map_of_copies f zero x h = refl
map_of_copies f (suc n) x h = ap (λ (y : _). y ∷ map f (replicate n x)) h ∙ ap (λ (ys : List _). x ∷ ys) (map_of_copies f n x h)

pub map_again : {X : Type 0} (f : X → X) → ((x : X) → f (f x) ≡ f x) → (xs : List X) → map f (map f xs) ≡ map f xs
map_again f h [] = refl
map_again f h (x ∷ xs) = ap (λ (y : _). y ∷ map f (map f xs)) (h x) ∙ ap (λ (ys : List _). f x ∷ ys) (map_again f h xs)

pub all_append : {X : Type 0} (P : X → Type 0) (xs ys : List X) → AllByRecursion P xs → AllByRecursion P ys → AllByRecursion P (xs ++ ys)
all_append P [] ys h k = k
all_append P (x ∷ xs) ys h k = (h.0, all_append P xs ys h.1 k)

pub all_weaker : (p q : ℕ → Bool) → ((b : ℕ) → p b ≡ true → q b ≡ true) → (xs : List ℕ) → list_all p xs ≡ true → list_all q xs ≡ true
all_weaker p q each [] all = refl
all_weaker p q each (x ∷ xs) all =
    let parts = and_parts (p x) (list_all p xs) all in
    and_from (q x) (list_all q xs) (each x parts.0) (all_weaker p q each xs parts.1)

pub range_push : (a n : ℕ) → range_with_len a (suc n) ≡ range_with_len a n ++ (a + n) ∷ []
range_push a zero = let same : a ≡ a + 0 = omega arith in ap (λ (i : ℕ). i ∷ []) same
range_push a (suc n) =
    let same : (a + 1) + n ≡ a + suc n = omega arith in
    ap (λ (is : List ℕ). a ∷ is) (range_push (a + 1) n ∙ ap (λ (i : ℕ). range_with_len (a + 1) n ++ i ∷ []) same)

pub range_first : (p : ℕ → Bool) (c n : ℕ) → c < n → list_all p (range_with_len c (n - c)) ≡ (p c && list_all p (range_with_len (c + 1) (n - (c + 1))))
range_first p c n lt =
    let more : n - c ≡ suc (n - (c + 1)) = omega (arith, lt) in ap (λ (k : ℕ). list_all p (range_with_len c k)) more

pub bytes_eq_itself : (n : List ℕ) → bytes_eq n n ≡ true
bytes_eq_itself n = (bytes_eq-Decides n n).1 refl

pub bytes_eq_back : (a b : List ℕ) → bytes_eq a b ≡ false → bytes_eq b a ≡ false
bytes_eq_back a b h = by (bytes_eq b a) refl
  where
    by : (t : Bool) → bytes_eq b a ≡ t → bytes_eq b a ≡ false
    by true e = absurd (let k : true ≡ false = sym ((bytes_eq-Decides a b).1 (sym ((bytes_eq-Decides b a).0 e))) ∙ h in cc)
    by false e = e
