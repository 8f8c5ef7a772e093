-- A table's answers, in words of names.
use Rattle.std.proofs.Common.{◌≡◌, ℕ, ◌+◌, Bool, true, false, cond, ltb, not, ◌||◌, List, [], ◌∷◌, ◌++◌, length, position, Option, Some, None, inl, inr, arith, refl, sym, ap, ◌∙◌}
use Rattle.std.specs.Borrow.{Bor}
use Rattle.std.specs.List.{list_any, position_or_len}
use Rattle.std.specs.Str.{bytes_eq}
use Rattle.std.proofs.lemmas.Bool.{cases_Bool, cases_lt, false_from_ne_true, both_ways, le-ltb, lt-ltb, ltb-false}
use Rattle.std.proofs.lemmas.List.{length-map, map-append}
use Rattle.std.proofs.lemmas.List.Recursion.{is_position_or_len}
use Rattle.std.proofs.lemmas.List.Sums.{prefix_len-le-length}
use Rattle.std.specs.Prelude.{slice_get, is_some, option_map, unwrap_or}
use Rattle.std.proofs.lemmas.Option.{cond_some, get_or_from_slice_get, slice_get-map, unwrap_or-slice_get}
use Rattle.std.proofs.lemmas.Slice.Eq.{bytes_eq-Decides}
use Rattle.indexmap.specs.IndexSet.{insert_key}
use Rattle.script_rows.specs.NameBytes.{is_among, name_at, number_in, words}
use Rattle.script_rows.specs.NameWords.{Word}
use Rattle.geo_base.proofs.Bools.{cond_none}

either_way : (a b : Word) → bytes_eq a b ≡ bytes_eq b a
either_way a b =
    elim (cases_Bool (bytes_eq a b)) [
      | inl same ↦ same ∙ sym ((bytes_eq-Decides b a).1 (sym ((bytes_eq-Decides a b).0 same)))
      | inr other ↦ other ∙ sym (false_from_ne_true (bytes_eq b a) (λ same. both_ways (bytes_eq a b) other ((bytes_eq-Decides a b).1 (sym ((bytes_eq-Decides b a).0 same)))))
    ]

counted : (b : Bool) (n : ℕ) → cond (not b) (1 + n) 0 ≡ cond b 0 (1 + n)
counted true n = refl
counted false n = refl

one_step : (w : Word) (x : Bor Word) (xs : List (Bor Word)) → number_in (words (x ∷ xs)) w ≡ cond (bytes_eq w x.now) 0 (1 + number_in (words xs) w)
one_step w x xs = rw (either_way w x.now) (counted (bytes_eq x.now w) (number_in (words xs) w))

place_of : (w : Word) (ks : List (Bor Word)) → number_in (words ks) w ≡ position_or_len (λ (k : Bor Word). bytes_eq w k.now) ks
place_of w ks =
    is_position_or_len (λ (xs : List (Bor Word)). number_in (words xs) w) (λ (k : Bor Word). bytes_eq w k.now) refl (one_step w) ks

pub number_found : (w : Word) (ks : List (Bor Word)) (i : ℕ) → position (λ (k : Bor Word). bytes_eq w k.now) ks ≡ Some i → i ≡ number_in (words ks) w
number_found w ks i e =
    sym (place_of w ks ∙ (cond_some (ltb (position_or_len (λ (k : Bor Word). bytes_eq w k.now) ks) (length ks)) (position_or_len (λ (k : Bor Word). bytes_eq w k.now) ks) i e).1)

pub number_missing : (w : Word) (ks : List (Bor Word)) → position (λ (k : Bor Word). bytes_eq w k.now) ks ≡ None → length ks ≡ number_in (words ks) w
number_missing w ks e =
    elim (cases_lt (position_or_len (λ (k : Bor Word). bytes_eq w k.now) ks) (length ks)) [
      | inl within ↦ absurd (omega (arith, ltb-false _ _ (cond_none (ltb (position_or_len (λ (k : Bor Word). bytes_eq w k.now) ks) (length ks)) (position_or_len (λ (k : Bor Word). bytes_eq w k.now) ks) e)))
      | inr past ↦ omega (arith, place_of w ks, prefix_len-le-length (λ (k : Bor Word). not (bytes_eq w k.now)) ks)
    ]

pub among : (w : Word) (ks : List (Bor Word)) → list_any (λ (k : Bor Word). bytes_eq w k.now) ks ≡ is_among (words ks) w
among w [] = refl
among w (k ∷ ks) = rw (either_way w k.now, among w ks) refl

-- a new name goes last
pub pushed : (w : Bor Word) (ks : List (Bor Word)) → is_among (words ks) w.now ≡ false → words (insert_key (λ (x y : Bor Word). bytes_eq x.now y.now) ks w) ≡ words ks ++ w.now ∷ []
pushed w ks new = rw (among w.now ks, new) (map-append (λ (x : Bor Word). x.now) ks (w ∷ []))

pub same_length : (ks : List (Bor Word)) → length (words ks) ≡ length ks
same_length ks = length-map ks (λ (w : Bor Word). w.now)

-- the name of a number
pub name_found : (ks : List (Bor Word)) (i : ℕ) (k : Bor Word) → slice_get ks i ≡ Some k → k.now ≡ name_at (words ks) i
name_found ks i k e =
    sym (get_or_from_slice_get (words ks) i k.now [] (slice_get-map (λ (w : Bor Word). w.now) ks i ∙ ap (option_map (λ (w : Bor Word). w.now)) e))

pub name_missing : (ks : List (Bor Word)) (i : ℕ) → slice_get ks i ≡ None → [] ≡ name_at (words ks) i
name_missing ks i e =
    let none : slice_get (words ks) i ≡ None = slice_get-map (λ (w : Bor Word). w.now) ks i ∙ ap (option_map (λ (w : Bor Word). w.now)) e in
    ap (λ (o : Option Word). unwrap_or o []) (sym none) ∙ unwrap_or-slice_get (words ks) i []

-- the number of a name, where it is one of them
pub found : (w : Word) (ks : List (Bor Word)) (i : ℕ) → position (λ (k : Bor Word). bytes_eq w k.now) ks ≡ Some i → true ≡ list_any (λ (k : Bor Word). bytes_eq w k.now) ks → Some i ≡ cond (is_among (words ks) w) (Some (number_in (words ks) w)) None
found w ks i e is =
    let one : is_among (words ks) w ≡ true = sym (is ∙ among w ks) in rw one (ap Some (number_found w ks i e))

pub not_found : (w : Word) (ks : List (Bor Word)) → false ≡ list_any (λ (k : Bor Word). bytes_eq w k.now) ks → None ≡ cond (is_among (words ks) w) (Some (number_in (words ks) w)) None
not_found w ks is = let none : is_among (words ks) w ≡ false = sym (is ∙ among w ks) in rw none refl

step : (b : Bool) (i n m : ℕ) (r : Bool) → m ≡ 1 + n → ltb i n ≡ r → ltb (cond (not b) (1 + i) 0) m ≡ (b || r)
step true i n m r is e = lt-ltb 0 m (omega arith)
step false i n m r is e = more ∙ e
  where
    more : ltb (1 + i) m ≡ ltb i n
    more = elim (cases_lt i n) [
      | inl under ↦ lt-ltb (1 + i) m (omega (arith, under)) ∙ sym (lt-ltb i n under)
      | inr past ↦ le-ltb (1 + i) m (omega (arith, past)) ∙ sym (le-ltb i n past)
    ]

within : {A : Type 0} (p : A → Bool) (xs : List A) → ltb (position_or_len p xs) (length xs) ≡ list_any p xs
within p [] = refl
within p (x ∷ xs) = step (p x) (position_or_len p xs) (length xs) (length (x ∷ xs)) (list_any p xs) (omega arith) (within p xs)

some_where : {A : Type 0} (b : Bool) (x : A) → is_some (cond b (Some x) None) ≡ b
some_where true x = refl
some_where false x = refl

-- there is a place where an element passes
pub placed : {A : Type 0} (p : A → Bool) (xs : List A) → is_some (position p xs) ≡ list_any p xs
placed p xs = some_where (ltb (position_or_len p xs) (length xs)) (position_or_len p xs) ∙ within p xs
