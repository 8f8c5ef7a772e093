-- A message that the rows keep is the last of its key.
use Rattle.std.proofs.Common.{◌≡◌, ℕ, zero, suc, ◌+◌, ◌<◌, ◌≤◌, ◌==◌, nat_le, nat_lt, Bool, true, false, List, [], ◌∷◌, length, take, drop, refl, ap, sym, ◌∙◌, arith}
use Rattle.std.specs.Prelude.{Option, Some, None, not, ◌&&◌, ◌||◌, if◌then◌else◌, slice_get, is_some}
use Rattle.std.specs.List.{list_any}
use Rattle.std.specs.Option.{option_or}
use Rattle.std.specs.Str.{bytes_eq}
use Rattle.std.proofs.lemmas.Bool.Decides.{nat_tests}
use Rattle.std.proofs.lemmas.Slice.Eq.{bytes_eq-Decides}
use Rattle.geo_base.specs.declared.entry.Entry.{Entry}
use Rattle.geo_base.specs.Entry.{is_data}
use Rattle.topic_compaction.specs.Last.{is_at, is_kept, last_from, IsCompacted, Rows}
use Rattle.topic_compaction.specs.View.{is_entry_shown, is_of_key, is_shown, stays}
use Rattle.geo_base.proofs.Results.{some_number}

-- ---- the last message of a key, where there is one

some_or : (o : Option ℕ) (b : Bool) (j : ℕ) (l : Bool) → is_some o ≡ l → is_some (option_or o (if b then Some j else None)) ≡ (b || l)
some_or (Some m) true j l h = refl
some_or (Some m) false j l h = h
some_or None true j l h = refl
some_or None false j l h = h

some_last : (k : List ℕ) (j : ℕ) (es : List Entry) → is_some (last_from k j es) ≡ list_any (is_of_key k) es
some_last k j [] = refl
some_last k j (e ∷ es) = some_or (last_from k (j + 1) es) (is_of_key k e) j (list_any (is_of_key k) es) (some_last k (j + 1) es)

above_or : (o : Option ℕ) (b : Bool) (j m : ℕ) → ((n : ℕ) → o ≡ Some n → j + 1 ≤ n) → option_or o (if b then Some j else None) ≡ Some m → j ≤ m
above_or (Some n) b j m h e = let one = h n refl in let two = some_number n m e in omega (arith, one, two)
above_or None true j m h e = let two = some_number j m e in omega (arith, two)
above_or None false j m h e = absurd (cc)

last_above : (k : List ℕ) (j : ℕ) (es : List Entry) (m : ℕ) → last_from k j es ≡ Some m → j ≤ m
last_above k j [] m h = absurd (cc)
last_above k j (e ∷ es) m h = above_or (last_from k (j + 1) es) (is_of_key k e) j m (last_above k (j + 1) es) h

-- ---- a message is the last of its key where none after it has the key

first_at : (o : Option ℕ) (b : Bool) (j : ℕ) (l : Bool) → b ≡ true → is_some o ≡ l → ((n : ℕ) → o ≡ Some n → j + 1 ≤ n) → is_at j (option_or o (if b then Some j else None)) ≡ not l
first_at (Some m) b j l t h above =
    let one = above m refl in
    let two : (m == j) ≡ false = grind (arith, nat_tests, one) in
    two ∙ ap not h
first_at None true j l t h above =
    let one : (j == j) ≡ true = grind (arith, nat_tests) in
    one ∙ ap not h
first_at None false j l t h above = absurd (cc)

later_at : (o : Option ℕ) (b : Bool) (j n : ℕ) (l : Bool) → is_at (j + suc n) o ≡ l → is_at (j + suc n) (option_or o (if b then Some j else None)) ≡ l
later_at (Some m) b j n l h = h
later_at None true j n l h =
    let one : (j == j + suc n) ≡ false = grind (arith, nat_tests) in
    one ∙ h
later_at None false j n l h = h

pub at_last : (k : List ℕ) (j i : ℕ) (es : List Entry) (e : Entry) → slice_get es i ≡ Some e → is_of_key k e ≡ true → is_at (j + i) (last_from k j es) ≡ not (list_any (is_of_key k) (drop (suc i) es))
at_last k j i [] e h t = absurd (cc)
at_last k j zero (d ∷ ds) e h t =
    let same : d ≡ e = cc in
    let here : is_of_key k d ≡ true = ap (is_of_key k) same ∙ t in
    let at : j + zero ≡ j = omega arith in
    ap (λ (n : ℕ). is_at n (last_from k j (d ∷ ds))) at
    ∙ first_at (last_from k (j + 1) ds) (is_of_key k d) j (list_any (is_of_key k) ds) here (some_last k (j + 1) ds) (last_above k (j + 1) ds)
at_last k j (suc n) (d ∷ ds) e h t =
    let at : j + suc n ≡ (j + 1) + n = omega arith in
    later_at (last_from k (j + 1) ds) (is_of_key k d) j n (not (list_any (is_of_key k) (drop (suc n) ds)))
    (ap (λ (m : ℕ). is_at m (last_from k (j + 1) ds)) at ∙ at_last k (j + 1) n ds e h t)

-- ---- so what the rows keep is the view's

pub get_within : (h : ℕ) (es : List Entry) (i : ℕ) → i < h → slice_get (take h es) i ≡ slice_get es i
get_within zero es i l = absurd (omega (arith, l))
get_within (suc h) [] i l = refl
get_within (suc h) (e ∷ es) zero l = refl
get_within (suc h) (e ∷ es) (suc i) l = get_within h es i (omega (arith, l))

kept_stays : (es : List Entry) (c : Rows) (i : ℕ) (e : Entry) (key : Option (List ℕ)) → IsCompacted es c → slice_get es i ≡ Some e → i < c.horizon
    → is_data e.content ≡ true → e.meta.key ≡ key → is_kept c.rows i key e.payload ≡ stays key e.payload (drop (i + 1) (take c.horizon es))
kept_stays es c i e None known at l d same = refl
kept_stays es c i e (Some k) known at l d same =
    let equal : bytes_eq k k ≡ true = (bytes_eq-Decides k k).1 refl in
    let here : is_of_key k e ≡ true = rw (d, same, equal) refl in
    let zeroth : i ≡ 0 + i = omega arith in
    let next : suc i ≡ i + 1 = omega arith in
    ap (λ (b : Bool). nat_lt 0 (length e.payload) && b)
    (ap (is_at i) (known.last k)
    ∙ ap (λ (n : ℕ). is_at n (last_from k 0 (take c.horizon es))) zeroth
    ∙ at_last k 0 i (take c.horizon es) e (get_within c.horizon es i l ∙ at) here
    ∙ ap (λ (n : ℕ). not (list_any (is_of_key k) (drop n (take c.horizon es)))) next)

both_alike : (b c x y : Bool) → (b ≡ true → c ≡ false → x ≡ y) → (b && (c || x)) ≡ (b && (c || y))
both_alike false c x y h = refl
both_alike true true x y h = refl
both_alike true false x y h = h refl refl

below : (h i : ℕ) → nat_le h i ≡ false → i < h
below h i l = grind (arith, nat_tests)

pub shown_by : (es : List Entry) (c : Rows) (i : ℕ) (e : Entry) → IsCompacted es c → slice_get es i ≡ Some e
    → (is_data e.content && (nat_le c.horizon i || is_kept c.rows i e.meta.key e.payload)) ≡ is_shown c.horizon es i
shown_by es c i e known at =
    both_alike (is_data e.content) (nat_le c.horizon i) (is_kept c.rows i e.meta.key e.payload) (stays e.meta.key e.payload (drop (i + 1) (take c.horizon es)))
    (λ d l. kept_stays es c i e e.meta.key known at (below c.horizon i l) d refl)
    ∙ ap (is_entry_shown c.horizon es i) (sym at)
