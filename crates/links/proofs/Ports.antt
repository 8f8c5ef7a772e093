-- Rows of links in one list: which place a link has there, and that the machine's tables, one after another, have it at the same.
use Rattle.std.proofs.Common.{◌≡◌, ℕ, zero, suc, ◌+◌, ◌*◌, ◌≤◌, ◌<◌, ◌^◌, ◌⊎◌, inl, inr, Bool, true, false, List, [], ◌∷◌, ◌++◌, length, refl, sym, ◌∙◌, ap, arith}
use Rattle.std.specs.Prelude.{◌&&◌, if◌then◌else◌, nat_lt, map, replicate, slice_index_or, slice_set}
use Rattle.std.proofs.Math.Nat.{mul-le-mul_left, mul_comm}
use Rattle.std.proofs.lemmas.Nat.{mul-add-lt}
use Rattle.std.proofs.lemmas.Bool.Decides.{nat_tests}
use Rattle.std.proofs.lemmas.List.{get_or-append-add, get_or_append_left, length-map, length-replicate, length-set, map-append, replicate-append-replicate, set-append_left, set-get_or, set_past}
use Rattle.geo_base.proofs.Lists.{index_or_past}
use Rattle.links.specs.Queues.{WireLinks, port_in}
use Rattle.links.specs.Standing.{AreRows, IsTable, joined}

-- ---- numbers

pub node_fits : (t n : ℕ) → t < 2 ^ 32 → n ≤ 8 → t * n ≤ t * 8
node_fits t n h k = mul-le-mul_left t k

pub place_fits : (before rows all row column columns : ℕ) → before + rows ≤ all → row < rows → column < columns → (before + row) * columns + column < all * columns
place_fits before rows all row column columns h lt lt' =
    let l = mul-add-lt (before + row) columns column all (omega (arith, h, lt)) lt' in
    let c = mul_comm all columns in
    omega (arith, l, c)

both_or : (P : ℕ → Type 0) (a b : Bool) (here none : ℕ) → (a ≡ true → b ≡ true → P here) → ((a ≡ false) ⊎ (b ≡ false) → P none) → P (if a && b then here else none)
both_or P true true here none p q = p refl refl
both_or P true false here none p q = q (inr refl)
both_or P false b here none p q = q (inl refl)

is_below : (m n : ℕ) → nat_lt m n ≡ true → m < n
is_below m n h = grind (arith, nat_tests, h)

is_past : (m n : ℕ) → nat_lt m n ≡ false → n ≤ m
is_past m n h = grind (arith, nat_tests, h)

-- what holds of the place of a link that is there, and of that of none, holds of a link's port
pub on_port : (P : ℕ → Type 0) (ls : WireLinks) (before rows row column : ℕ) → (row < rows → column < ls.clusters → P ((before + row) * ls.clusters + column))
    → ((rows ≤ row) ⊎ (ls.clusters ≤ column) → P (length ls.queues)) → P (port_in ls before rows row column)
on_port P ls before rows row column there none =
    both_or P (nat_lt row rows) (nat_lt column ls.clusters) ((before + row) * ls.clusters + column) (length ls.queues)
    (λ a b. there (is_below row rows a) (is_below column ls.clusters b))
    (λ out. elim out [ inl a ↦ none (inl (is_past row rows a)) | inr b ↦ none (inr (is_past column ls.clusters b)) ])

pub none_before : (k : ℕ) → 0 + k ≡ k
none_before k = omega arith

one_more : (m k : ℕ) → suc m + k ≡ suc (m + k)
one_more m k = omega arith

first_row : (n j : ℕ) → 0 * n + j ≡ j
first_row n j = omega arith

row_more : (n k : ℕ) → suc k * n ≡ n + k * n
row_more n k = omega arith

-- ---- one table

module _ {A : Type 0} where
  row_short : (n : ℕ) (m : List (List A)) (i : ℕ) → AreRows n m → length (slice_index_or m i []) ≤ n
  unfolding AreRows
  row_short n [] i rows = omega arith
  row_short n (r ∷ m) zero rows = let e = rows.0 in omega (arith, e)
  row_short n (r ∷ m) (suc i) rows = row_short n m i rows.1

  -- past its ends there is nothing
  pub nothing_past : (n : ℕ) (m : List (List A)) (i j : ℕ) (d : A) → AreRows n m → (length m ≤ i) ⊎ (n ≤ j) → slice_index_or (slice_index_or m i []) j d ≡ d
  nothing_past n m i j d rows (inl past) = ap (λ (r : List A). slice_index_or r j d) (index_or_past m i [] past)
  nothing_past n m i j d rows (inr past) = let short = row_short n m i rows in index_or_past (slice_index_or m i []) j d (omega (arith, short, past))

  pub same_past : (n : ℕ) (m : List (List A)) (i j : ℕ) (a : A) → AreRows n m → (length m ≤ i) ⊎ (n ≤ j) → slice_set m i (slice_set (slice_index_or m i []) j a) ≡ m
  same_past n m i j a rows (inl past) = set_past m i _ past
  same_past n m i j a rows (inr past) =
      let short = row_short n m i rows in
      ap (λ (r : List A). slice_set m i r) (set_past (slice_index_or m i []) j a (omega (arith, short, past))) ∙ set-get_or m i []

  -- past the ends of a table of so many rows
  pub past_ends : (rows n : ℕ) (m : List (List A)) (i j : ℕ) → IsTable rows n m → (rows ≤ i) ⊎ (n ≤ j) → (length m ≤ i) ⊎ (n ≤ j)
  past_ends rows n m i j t (inl past) = let e = t.count in inl (omega (arith, e, past))
  past_ends rows n m i j t (inr past) = inr past

  rows_set : (n : ℕ) (m : List (List A)) (i j : ℕ) (a : A) → AreRows n m → AreRows n (slice_set m i (slice_set (slice_index_or m i []) j a))
  unfolding AreRows
  rows_set n [] i j a rows = tt
  rows_set n (r ∷ m) zero j a rows = (length-set r j a ∙ rows.0, rows.1)
  rows_set n (r ∷ m) (suc i) j a rows = (rows.0, rows_set n m i j a rows.1)

  pub table_set : (rows n : ℕ) (m : List (List A)) (i j : ℕ) (a : A) → IsTable rows n m → IsTable rows n (slice_set m i (slice_set (slice_index_or m i []) j a))
  table_set rows n m i j a t = record { count = length-set m i _ ∙ t.count; each = rows_set n m i j a t.each }

  rows_copies : (rows n : ℕ) (a : A) → AreRows n (replicate rows (replicate n a))
  unfolding AreRows
  rows_copies zero n a = tt
  rows_copies (suc rows) n a = (length-replicate n a, rows_copies rows n a)

  pub table_copies : (rows n : ℕ) (a : A) → IsTable rows n (replicate rows (replicate n a))
  table_copies rows n a = record { count = length-replicate rows (replicate n a); each = rows_copies rows n a }

  rows_map : (n : ℕ) (f : A → A) (m : List (List A)) → AreRows n m → AreRows n (map (λ r. map f r) m)
  unfolding AreRows
  rows_map n f [] rows = tt
  rows_map n f (r ∷ m) rows = (length-map r f ∙ rows.0, rows_map n f m rows.1)

  pub table_map : (rows n : ℕ) (f : A → A) (m : List (List A)) → IsTable rows n m → IsTable rows n (map (λ r. map f r) m)
  table_map rows n f m t = record { count = length-map m (λ r. map f r) ∙ t.count; each = rows_map n f m t.each }

  -- ---- rows one after another

  set_append_add : (xs ys : List A) (k : ℕ) (a : A) → slice_set (xs ++ ys) (length xs + k) a ≡ xs ++ slice_set ys k a
  set_append_add [] ys k a = ap (λ (m : ℕ). slice_set ys m a) (none_before k)
  set_append_add (x ∷ xs) ys k a = ap (λ (m : ℕ). slice_set (x ∷ (xs ++ ys)) m a) (one_more (length xs) k) ∙ ap (λ zs. x ∷ zs) (set_append_add xs ys k a)

  -- what is in a table, and in what stands after it
  at_front : (n : ℕ) (m ys : List (List A)) (i j : ℕ) (d : A) → AreRows n m → i < length m → j < n → slice_index_or (joined (m ++ ys)) (i * n + j) d ≡ slice_index_or (slice_index_or m i []) j d
  unfolding joined AreRows
  at_front n [] ys i j d rows lt lt' = absurd (omega (arith, lt))
  at_front n (r ∷ m) ys zero j d rows lt lt' =
      let e = rows.0 in
      ap (λ (k : ℕ). slice_index_or (r ++ joined (m ++ ys)) k d) (first_row n j) ∙ get_or_append_left r (joined (m ++ ys)) d j (omega (arith, e, lt'))
  at_front n (r ∷ m) ys (suc i) j d rows lt lt' =
      let e = rows.0 in
      let place : suc i * n + j ≡ length r + (i * n + j) = omega (arith, e) in
      ap (λ (k : ℕ). slice_index_or (r ++ joined (m ++ ys)) k d) place ∙ get_or-append-add r (joined (m ++ ys)) (i * n + j) d ∙ at_front n m ys i j d rows.1 (omega (arith, lt)) lt'

  set_front : (n : ℕ) (m ys : List (List A)) (i j : ℕ) (a : A) → AreRows n m → i < length m → j < n → joined (slice_set m i (slice_set (slice_index_or m i []) j a) ++ ys) ≡ slice_set (joined (m ++ ys)) (i * n + j) a
  unfolding joined AreRows
  set_front n [] ys i j a rows lt lt' = absurd (omega (arith, lt))
  set_front n (r ∷ m) ys zero j a rows lt lt' =
      let e = rows.0 in
      sym (set-append_left r (joined (m ++ ys)) j a (omega (arith, e, lt'))) ∙ ap (λ (k : ℕ). slice_set (r ++ joined (m ++ ys)) k a) (sym (first_row n j))
  set_front n (r ∷ m) ys (suc i) j a rows lt lt' =
      let e = rows.0 in
      let place : suc i * n + j ≡ length r + (i * n + j) = omega (arith, e) in
      ap (λ (xs : List A). r ++ xs) (set_front n m ys i j a rows.1 (omega (arith, lt)) lt')
      ∙ sym (set_append_add r (joined (m ++ ys)) (i * n + j) a) ∙ ap (λ (k : ℕ). slice_set (r ++ joined (m ++ ys)) k a) (sym place)

  skip_rows : (n : ℕ) (r : List A) (m i j : ℕ) → length r ≡ n → (suc m + i) * n + j ≡ length r + ((m + i) * n + j)
  skip_rows n r m i j e =
      let more = row_more n (m + i) in
      ap (λ (k : ℕ). k * n + j) (one_more m i) ∙ omega (arith, e, more)

  skip_at : (n : ℕ) (xs zs : List (List A)) (i j : ℕ) (d : A) → AreRows n xs → slice_index_or (joined (xs ++ zs)) ((length xs + i) * n + j) d ≡ slice_index_or (joined zs) (i * n + j) d
  unfolding joined AreRows
  skip_at n [] zs i j d rows = ap (λ (k : ℕ). slice_index_or (joined zs) (k * n + j) d) (none_before i)
  skip_at n (r ∷ xs) zs i j d rows =
      ap (λ (k : ℕ). slice_index_or (r ++ joined (xs ++ zs)) k d) (skip_rows n r (length xs) i j rows.0) ∙ get_or-append-add r (joined (xs ++ zs)) ((length xs + i) * n + j) d ∙ skip_at n xs zs i j d rows.1

  skip_set : (n : ℕ) (xs zs ws : List (List A)) (i j : ℕ) (a : A) → AreRows n xs → joined ws ≡ slice_set (joined zs) (i * n + j) a → joined (xs ++ ws) ≡ slice_set (joined (xs ++ zs)) ((length xs + i) * n + j) a
  unfolding joined AreRows
  skip_set n [] zs ws i j a rows is = is ∙ ap (λ (k : ℕ). slice_set (joined zs) (k * n + j) a) (sym (none_before i))
  skip_set n (r ∷ xs) zs ws i j a rows is =
      ap (λ (ys : List A). r ++ ys) (skip_set n xs zs ws i j a rows.1 is)
      ∙ sym (set_append_add r (joined (xs ++ zs)) ((length xs + i) * n + j) a)
      ∙ ap (λ (k : ℕ). slice_set (r ++ joined (xs ++ zs)) k a) (sym (skip_rows n r (length xs) i j rows.0))

  -- the same with tables, by how many rows they have
  pub front_at : (rows n : ℕ) (m ys : List (List A)) (i j : ℕ) (d : A) → IsTable rows n m → i < rows → j < n → slice_index_or (joined (m ++ ys)) (i * n + j) d ≡ slice_index_or (slice_index_or m i []) j d
  front_at rows n m ys i j d t lt lt' = let e = t.count in at_front n m ys i j d t.each (omega (arith, e, lt)) lt'

  pub front_set : (rows n : ℕ) (m ys : List (List A)) (i j : ℕ) (a : A) → IsTable rows n m → i < rows → j < n → joined (slice_set m i (slice_set (slice_index_or m i []) j a) ++ ys) ≡ slice_set (joined (m ++ ys)) (i * n + j) a
  front_set rows n m ys i j a t lt lt' = let e = t.count in set_front n m ys i j a t.each (omega (arith, e, lt)) lt'

  pub after_at : (rows n : ℕ) (xs zs : List (List A)) (k i j : ℕ) (d : A) → IsTable rows n xs → k ≡ rows + i → slice_index_or (joined (xs ++ zs)) (k * n + j) d ≡ slice_index_or (joined zs) (i * n + j) d
  after_at rows n xs zs k i j d t is =
      let e = t.count in
      let at : k ≡ length xs + i = omega (arith, e, is) in
      ap (λ (r : ℕ). slice_index_or (joined (xs ++ zs)) (r * n + j) d) at ∙ skip_at n xs zs i j d t.each

  pub after_set : (rows n : ℕ) (xs zs ws : List (List A)) (k i j : ℕ) (a : A) → IsTable rows n xs → k ≡ rows + i → joined ws ≡ slice_set (joined zs) (i * n + j) a → joined (xs ++ ws) ≡ slice_set (joined (xs ++ zs)) (k * n + j) a
  after_set rows n xs zs ws k i j a t at is =
      let e = t.count in
      let there : k ≡ length xs + i = omega (arith, e, at) in
      skip_set n xs zs ws i j a t.each is ∙ ap (λ (r : ℕ). slice_set (joined (xs ++ zs)) (r * n + j) a) (sym there)

  -- ---- all of them changed, and all the same

  pub joined_map : (f : A → A) (m : List (List A)) → joined (map (λ r. map f r) m) ≡ map f (joined m)
  unfolding joined
  joined_map f [] = refl
  joined_map f (r ∷ m) = ap (λ (xs : List A). map f r ++ xs) (joined_map f m) ∙ sym (map-append f r (joined m))

  pub joined_copies : (rows n : ℕ) (a : A) → joined (replicate rows (replicate n a)) ≡ replicate (rows * n) a
  unfolding joined
  joined_copies zero n a = let e : 0 ≡ 0 * n = omega arith in ap (λ (k : ℕ). replicate k a) e
  joined_copies (suc rows) n a = ap (λ (xs : List A). replicate n a ++ xs) (joined_copies rows n a) ∙ replicate-append-replicate n (rows * n) a ∙ ap (λ (k : ℕ). replicate k a) (sym (row_more n rows))
