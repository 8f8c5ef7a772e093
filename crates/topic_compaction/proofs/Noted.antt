-- Rows noted after those of a shorter topic.
use Rattle.std.proofs.Common.{◌≡◌, ℕ, zero, suc, ◌+◌, ◌-◌, ◌<◌, ◌≤◌, Bool, true, false, List, [], ◌∷◌, ◌++◌, length, take, drop, get_or, refl, ap, sym, ◌∙◌, arith}
use Rattle.std.specs.Prelude.{Option, Some, None, if◌then◌else◌, slice_get}
use Rattle.std.specs.Option.{option_or}
use Rattle.std.specs.Str.{bytes_eq}
use Rattle.std.specs.Prelude.{String, string_bytes, string_eq}
use Rattle.std.specs.declared.alloc.Global.{Global}
use Rattle.std.proofs.lemmas.List.{take-append-drop, length-take-le}
use Rattle.std.proofs.lemmas.Option.{slice_get-get_or, slice_get_within}
use Rattle.std.proofs.lemmas.Slice.Eq.{bytes_eq-Decides}
use Rattle.std.proofs.Math.Seq.{drop-cons}
use Rattle.indexmap.specs.IndexMap.{insert_entry}
use Rattle.geo_base.specs.declared.entry.Entry.{Entry}
use Rattle.geo_base.specs.Entry.{is_data}
use Rattle.topic_compaction.specs.Last.{if_of_key, index_in, last_from, IsCompacted, Row, Rows}
use Rattle.topic_compaction.specs.View.{is_of_key}
use Rattle.topic_compaction.proofs.Shown.{get_within}
use Rattle.geo_base.proofs.Bools.{ifs_join, ifs_swap}

-- ---- a choice of several

or_none : (o : Option ℕ) → option_or o None ≡ o
or_none None = refl
or_none (Some n) = refl

or_assoc : (a b c : Option ℕ) → option_or (option_or a b) c ≡ option_or a (option_or b c)
or_assoc None b c = refl
or_assoc (Some n) b c = refl

-- ---- rows one by one

abbrev one_row : List ℕ → Row → Option ℕ
one_row k r = if bytes_eq k (string_bytes r.0) then Some r.1 else None

or_test : (b : Bool) (x : Option ℕ) (n : ℕ) (o : Option ℕ) → (if b then Some n else option_or x o) ≡ option_or (if b then Some n else x) o
or_test true x n o = refl
or_test false x n o = refl

-- a row after others counts where they say nothing
pub index-append : (k : List ℕ) (rows : List Row) (r : Row) → index_in k (rows ++ r ∷ []) ≡ option_or (index_in k rows) (one_row k r)
index-append k [] r = refl
index-append k (s ∷ rows) r =
    ap (λ (o : Option ℕ). if bytes_eq k (string_bytes s.0) then Some s.1 else o) (index-append k rows r)
    ∙ or_test (bytes_eq k (string_bytes s.0)) (index_in k rows) s.1 (one_row k r)

same_text : (k : List ℕ) (s t : String Global) → string_eq s t ≡ true → bytes_eq k (string_bytes s) ≡ bytes_eq k (string_bytes t)
same_text k s t h = ap (bytes_eq k) ((bytes_eq-Decides (string_bytes s) (string_bytes t)).0 h)

apart : (k : List ℕ) (s t : String Global) → string_eq s t ≡ false → bytes_eq k (string_bytes t) ≡ true → bytes_eq k (string_bytes s) ≡ true → ⊥
apart k s t n a b =
    let one = (bytes_eq-Decides k (string_bytes t)).0 a in
    let two = (bytes_eq-Decides k (string_bytes s)).0 b in
    let same : string_eq s t ≡ true = (bytes_eq-Decides (string_bytes s) (string_bytes t)).1 (sym two ∙ one) in
    cc

insert_step : (k : List ℕ) (rows : List Row) (s : String Global) (v : ℕ) (r : Row) (b : Bool) → string_eq s r.0 ≡ b
    → index_in k (insert_entry string_eq rows s v) ≡ option_or (one_row k (s, v)) (index_in k rows)
    → index_in k (if b then (r.0, v) ∷ rows else r ∷ insert_entry string_eq rows s v) ≡ (if bytes_eq k (string_bytes s) then Some v else index_in k (r ∷ rows))
insert_step k rows s v r true e h =
    ap (λ (c : Bool). if c then Some v else index_in k rows) (sym (same_text k s r.0 e))
    ∙ ifs_join (bytes_eq k (string_bytes s)) (Some v) (Some r.1) (index_in k rows)
    ∙ ap (λ (c : Bool). if bytes_eq k (string_bytes s) then Some v else if c then Some r.1 else index_in k rows) (same_text k s r.0 e)
insert_step k rows s v r false e h =
    ap (λ (o : Option ℕ). if bytes_eq k (string_bytes r.0) then Some r.1 else o) (h ∙ or_if (bytes_eq k (string_bytes s)) v (index_in k rows))
    ∙ ifs_swap (bytes_eq k (string_bytes r.0)) (bytes_eq k (string_bytes s)) (Some r.1) (Some v) (index_in k rows) (apart k s r.0 e)
  where
    or_if : (b : Bool) (n : ℕ) (o : Option ℕ) → option_or (if b then Some n else None) o ≡ (if b then Some n else o)
    or_if true n o = refl
    or_if false n o = refl

if_or : (b : Bool) (n : ℕ) (o : Option ℕ) → (if b then Some n else o) ≡ option_or (if b then Some n else None) o
if_or true n o = refl
if_or false n o = refl

-- a row that is put into a map comes before what the map said of its key, and changes no other
pub index-insert : (k : List ℕ) (rows : List Row) (s : String Global) (v : ℕ) → index_in k (insert_entry string_eq rows s v) ≡ option_or (one_row k (s, v)) (index_in k rows)
index-insert k [] s v = if_or (bytes_eq k (string_bytes s)) v None
index-insert k (r ∷ rows) s v =
    insert_step k rows s v r (string_eq s r.0) refl (index-insert k rows s v)
    ∙ if_or (bytes_eq k (string_bytes s)) v (index_in k (r ∷ rows))

-- one row moves from those after to the map
pub moved : (k : List ℕ) (rows kept : List Row) (s : String Global) (v : ℕ) (all : Option ℕ) → option_or (index_in k (rows ++ (s, v) ∷ [])) (index_in k kept) ≡ all
    → option_or (index_in k rows) (index_in k (insert_entry string_eq kept s v)) ≡ all
moved k rows kept s v all h =
    ap (option_or (index_in k rows)) (index-insert k kept s v)
    ∙ sym (or_assoc (index_in k rows) (one_row k (s, v)) (index_in k kept))
    ∙ ap (λ (o : Option ℕ). option_or o (index_in k kept)) (sym (index-append k rows (s, v)))
    ∙ h

-- ---- the last messages of entries, and rows for them

-- the entry at an index and those after it
pub rest_from : (es : List Entry) (i : ℕ) (e : Entry) → slice_get es i ≡ Some e → drop i es ≡ e ∷ drop (i + 1) es
rest_from es i e h =
    let within = slice_get_within es i e h in
    let here : Some e ≡ Some (get_or es i e) = sym h ∙ slice_get-get_or es i e within in
    let same : e ≡ get_or es i e = cc in
    let next : suc i ≡ i + 1 = omega arith in
    drop-cons es i e within ∙ ap (λ (x : Entry). x ∷ drop (suc i) es) (sym same) ∙ ap (λ (n : ℕ). e ∷ drop n es) next

pub last_step : (k : List ℕ) (es : List Entry) (i : ℕ) (e : Entry) → slice_get es i ≡ Some e → last_from k i (drop i es) ≡ option_or (last_from k (i + 1) (drop (i + 1) es)) (if_of_key k i e)
last_step k es i e h = ap (last_from k i) (rest_from es i e h)

pub last_split : (k : List ℕ) (j : ℕ) (xs ys : List Entry) → last_from k j (xs ++ ys) ≡ option_or (last_from k (j + length xs) ys) (last_from k j xs)
last_split k j [] ys =
    let at : j ≡ j + 0 = omega arith in
    ap (λ (n : ℕ). last_from k n ys) at ∙ sym (or_none (last_from k (j + 0) ys))
last_split k j (x ∷ xs) ys =
    let at : (j + 1) + length xs ≡ j + length (x ∷ xs) = omega arith in
    ap (λ (o : Option ℕ). option_or o (if_of_key k j x)) (last_split k (j + 1) xs ys)
    ∙ or_assoc (last_from k ((j + 1) + length xs) ys) (last_from k (j + 1) xs) (if_of_key k j x)
    ∙ ap (λ (n : ℕ). option_or (last_from k n ys) (last_from k j (x ∷ xs))) at

take_twice : (a b : ℕ) (es : List Entry) → a ≤ b → take a (take b es) ≡ take a es
take_twice zero b es l = refl
take_twice (suc a) zero es l = absurd (omega (arith, l))
take_twice (suc a) (suc b) [] l = refl
take_twice (suc a) (suc b) (e ∷ es) l = ap (λ (xs : List Entry). e ∷ xs) (take_twice a b es (omega (arith, l)))

-- those of the first a entries, and those from there up to entry b
pub last_joined : (k : List ℕ) (a b : ℕ) (es : List Entry) → a ≤ b → b ≤ length es → option_or (last_from k a (drop a (take b es))) (last_from k 0 (take a es)) ≡ last_from k 0 (take b es)
last_joined k a b es l m =
    let front : take a (take b es) ≡ take a es = take_twice a b es l in
    let le : a ≤ length es = omega (arith, l, m) in
    let many : length (take a es) ≡ a = length-take-le a es le in
    let at : 0 + length (take a es) ≡ a = omega (arith, many) in
    sym (ap (last_from k 0) (sym (take-append-drop a (take b es)) ∙ ap (λ (xs : List Entry). xs ++ drop a (take b es)) front)
    ∙ last_split k 0 (take a es) (drop a (take b es))
    ∙ ap (λ (n : ℕ). option_or (last_from k n (drop a (take b es))) (last_from k 0 (take a es))) at)

-- ---- a loop over the entries from the last one down

pub row_back : (k : List ℕ) (rows new : List Row) (es : List Entry) (a b n : ℕ) (e : Entry) → a < n → n ≤ b → slice_get es (n - 1) ≡ Some e
    → index_in k rows ≡ last_from k n (drop n (take b es)) → index_in k new ≡ option_or (index_in k rows) (if_of_key k (n - 1) e) → index_in k new ≡ last_from k (n - 1) (drop (n - 1) (take b es))
row_back k rows new es a b n e l m at h t =
    let within : n - 1 < b = omega (arith, l, m) in
    let next : n ≡ (n - 1) + 1 = omega (arith, l) in
    t
    ∙ ap (λ (o : Option ℕ). option_or o (if_of_key k (n - 1) e)) (h ∙ ap (λ (j : ℕ). last_from k j (drop j (take b es))) next)
    ∙ sym (last_step k (take b es) (n - 1) e (get_within b es (n - 1) within ∙ at))

-- something stands at each index
pub something : (es : List Entry) (i : ℕ) → i < length es → slice_get es i ≡ None → ⊥
something [] i l h = omega (arith, l)
something (e ∷ es) zero l h = cc
something (e ∷ es) (suc i) l h = something es i (omega (arith, l)) h

-- the row of one message
pub row_behind : (k : List ℕ) (rows new : List Row) (e : Entry) (s : String Global) (key : List ℕ) (i : ℕ) → new ≡ rows ++ (s, i) ∷ []
    → is_data e.content ≡ true → e.meta.key ≡ Some key → string_bytes s ≡ key → index_in k new ≡ option_or (index_in k rows) (if_of_key k i e)
row_behind k rows new e s key i h d q t =
    let both : is_of_key k e ≡ bytes_eq k key = rw (d, q) refl in
    ap (index_in k) h ∙ index-append k rows (s, i)
    ∙ ap (λ (b : Bool). option_or (index_in k rows) (if b then Some i else None)) (ap (bytes_eq k) t ∙ sym both)

-- an entry that is no message of a key has no row
pub no_row : (k : List ℕ) (rows : List Row) (e : Entry) (i : ℕ) → is_of_key k e ≡ false → index_in k rows ≡ option_or (index_in k rows) (if_of_key k i e)
no_row k rows e i h = sym (ap (λ (b : Bool). option_or (index_in k rows) (if b then Some i else None)) h ∙ or_none (index_in k rows))

-- ---- the horizon moves on

pub advanced : (es : List Entry) (old : Rows) (b : ℕ) (rows kept : List Row) → IsCompacted es old → old.horizon ≤ b → b ≤ length es
    → ((k : List ℕ) → index_in k rows ≡ last_from k old.horizon (drop old.horizon (take b es)))
    → ((k : List ℕ) → index_in k kept ≡ option_or (index_in k rows) (index_in k old.rows)) → IsCompacted es (record { horizon = b; rows = kept })
advanced es old b rows kept known l m new all = record {
  within = m;
  last = λ k. all k ∙ ap (λ (o : Option ℕ). option_or o (index_in k old.rows)) (new k)
      ∙ ap (λ (o : Option ℕ). option_or (last_from k old.horizon (drop old.horizon (take b es))) o) (known.last k) ∙ last_joined k old.horizon b es l m;
}
