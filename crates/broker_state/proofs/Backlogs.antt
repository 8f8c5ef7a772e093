-- A backlog, read from the ranges of a cursor.
use Rattle.std.proofs.Common.{◌≡◌, ◌∙◌, ℕ, zero, suc, ◌+◌, ◌-◌, ◌≤◌, Bool, true, false, List, [], ◌∷◌, length, map, refl, ap, sym, arith}
use Rattle.std.specs.Prelude.{◌&&◌, ◌||◌, nat_le, not, if◌then◌else◌, min, take}
use Rattle.std.proofs.lemmas.Bool.Decides.{nat_tests}
use Rattle.std.proofs.lemmas.List.Sums.{sum_by-cons}
use Rattle.cursor_acks.specs.Ranges.{AreApart, AreRangesOf, covers, lies_in}
use Rattle.cursor_acks.proofs.Covered.{apart_tail, uncovered}
use Rattle.cursor_acks.specs.declared.range.IndexRange.{IndexRange}
use Rattle.geo_base.specs.declared.entry.Entry.{Entry}
use Rattle.geo_base.specs.Cursor.{backlog_from, has}
use Rattle.geo_base.specs.Entry.{is_data}
use Rattle.topic_store.specs.Messages.{is_message, messages_before}
use Rattle.geo_base.proofs.Bools.{true_not_false}

abbrev one : Bool → ℕ
one b = if b then 1 else 0

abbrev pub flags : List Entry → List Bool
flags es = map (λ (e : Entry). is_data e.content) es

-- how many messages a test does not cover; i is the index of the first flag
abbrev pub left_by : (ℕ → Bool) → ℕ → List Bool → ℕ
left_by p i [] = 0
left_by p i (d ∷ ds) = one (d && not (p i)) + left_by p (i + 1) ds

backlog_left : (set : List ℕ) (i : ℕ) (ds : List Bool) → backlog_from set i ds ≡ left_by (has set) i ds
backlog_left set i [] = refl
backlog_left set i (d ∷ ds) = ap (λ n. one (d && not (has set i)) + n) (backlog_left set (i + 1) ds)

left_same : (p q : ℕ → Bool) (i : ℕ) (ds : List Bool) → ((j : ℕ) → p j ≡ q j) → left_by p i ds ≡ left_by q i ds
left_same p q i [] h = refl
left_same p q i (d ∷ ds) h =
    ap (λ (b : Bool). one (d && not b) + left_by p (i + 1) ds) (h i) ∙ ap (λ n. one (d && not (q i)) + n) (left_same p q (i + 1) ds h)

split_one : (d p q r : Bool) → q ≡ (p || r) → (r ≡ true → p ≡ false) → one (d && not p) ≡ one (d && not q) + one (d && not (not r))
split_one false p q r e f = refl
split_one true true q true e f = absurd (true_not_false (f refl))
split_one true true q false e f = rw e refl
split_one true false q true e f = rw e refl
split_one true false q false e f = rw e refl

-- a test that covers some more, apart from what was covered
left_split : (p q r : ℕ → Bool) (i : ℕ) (ds : List Bool) → ((j : ℕ) → q j ≡ (p j || r j)) → ((j : ℕ) → r j ≡ true → p j ≡ false)
    → left_by p i ds ≡ left_by q i ds + left_by (λ j. not (r j)) i ds
left_split p q r i [] e f = refl
left_split p q r i (d ∷ ds) e f =
    omega (arith, split_one d (p i) (q i) (r i) (e i) (f i), left_split p q r (i + 1) ds e f)

more : (e : Entry) (es : List Entry) (k : ℕ) → messages_before (e ∷ es) (suc k) ≡ one (is_data e.content) + messages_before es k
more e es k = sum_by-cons (λ (x : Entry). one (is_message x)) e (take k es)

nothing : (k : ℕ) → messages_before [] k ≡ 0
nothing zero = refl
nothing (suc k) = refl

none : (es : List Entry) → messages_before es 0 ≡ 0
none es = refl

abbrev between : ℕ → ℕ → ℕ → Bool
between a b j = nat_le a j && nat_le j b

in_case : (d t : Bool) → t ≡ true → one (d && not (not t)) ≡ one d
in_case true t h = rw h refl
in_case false t h = refl

out_case : (d t : Bool) → t ≡ false → one (d && not (not t)) ≡ 0
out_case true t h = rw h refl
out_case false t h = refl

cases : (a b i : ℕ) (e : Entry) (es : List Entry) → a ≤ b + 1 → (x y : ℕ) → a - i ≡ x → b + 1 - i ≡ y
    → left_by (λ j. not (between a b j)) (i + 1) (flags es) ≡ messages_before es (b + 1 - (i + 1)) - messages_before es (a - (i + 1))
    → left_by (λ j. not (between a b j)) i (flags (e ∷ es)) ≡ messages_before (e ∷ es) (b + 1 - i) - messages_before (e ∷ es) (a - i)
cases a b i e es h (suc x) zero ex ey rest = absurd (omega (arith, ex, ey, h))
cases a b i e es h (suc x) (suc y) ex ey rest =
    let d : Bool = is_data e.content in
    let t : between a b i ≡ false = grind (arith, nat_tests, ex) in
    let first : a - (i + 1) ≡ x = omega (arith, ex) in
    let last : b + 1 - (i + 1) ≡ y = omega (arith, ey) in
    let rest' = rw (first, last) at rest in
    rw (ex, ey) (omega (arith, out_case d (between a b i) t, more e es x, more e es y, rest'))
cases a b i e es h zero (suc y) ex ey rest =
    let d : Bool = is_data e.content in
    let t : between a b i ≡ true = grind (arith, nat_tests, ex, ey) in
    let first : a - (i + 1) ≡ 0 = omega (arith, ex) in
    let last : b + 1 - (i + 1) ≡ y = omega (arith, ey) in
    let rest' = rw (first, last) at rest in
    rw (ex, ey) (omega (arith, in_case d (between a b i) t, more e es y, none (e ∷ es), none es, rest'))
cases a b i e es h zero zero ex ey rest =
    let d : Bool = is_data e.content in
    let t : between a b i ≡ false = grind (arith, nat_tests, ey) in
    let first : a - (i + 1) ≡ 0 = omega (arith, ex) in
    let last : b + 1 - (i + 1) ≡ 0 = omega (arith, ey) in
    let rest' = rw (first, last) at rest in
    rw (ex, ey) (omega (arith, out_case d (between a b i) t, none (e ∷ es), none es, rest'))

-- how many messages stand from index a up to index b
left_between : (a b i : ℕ) (es : List Entry) → a ≤ b + 1 → left_by (λ j. not (between a b j)) i (flags es) ≡ messages_before es (b + 1 - i) - messages_before es (a - i)
left_between a b i [] h = omega (arith, nothing (b + 1 - i), nothing (a - i))
left_between a b i (e ∷ es) h = cases a b i e es h (a - i) (b + 1 - i) refl refl (left_between a b (i + 1) es h)

open_one : (d : Bool) → one (d && not false) ≡ one d
open_one true = refl
open_one false = refl

-- all of them
pub left_all : (i : ℕ) (es : List Entry) → left_by (λ j. false) i (flags es) ≡ messages_before es (length es)
left_all i [] = refl
left_all i (e ∷ es) = omega (arith, open_one (is_data e.content), left_all (i + 1) es, more e es (length es))

-- after the last entry there is no more
pub capped : (es : List Entry) (k : ℕ) → messages_before es (min k (length es)) ≡ messages_before es k
capped [] k = nothing (min k 0) ∙ sym (nothing k)
capped (e ∷ es) zero =
    let first : min 0 (length (e ∷ es)) ≡ 0 = omega arith in
    rw first refl
capped (e ∷ es) (suc k) =
    let next : min (suc k) (length (e ∷ es)) ≡ suc (min k (length es)) = omega arith in
    rw next (omega (arith, more e es (min k (length es)), more e es k, capped es k))

or_swap : (a b : Bool) → (a || b) ≡ (b || a)
or_swap true true = refl
or_swap true false = refl
or_swap false true = refl
or_swap false false = refl

-- a range covers nothing that one after it covers
apart_behind : (r : IndexRange) (rs : List IndexRange) (j : ℕ) → AreApart (r ∷ rs) → lies_in r j ≡ true → covers rs j ≡ false
apart_behind r rs j h here =
    let reached : j ≤ r.last = grind (arith, nat_tests, here) in
    uncovered rs j (λ k d n a b. omega (arith, h.gaps 0 (suc k) d (omega arith) (omega (arith, n)), a, reached))

-- how many messages stand in ranges
abbrev pub messages_within : List Entry → List IndexRange → ℕ
messages_within es [] = 0
messages_within es (r ∷ rs) = messages_before es (r.last + 1) - messages_before es r.first + messages_within es rs

all_but : (rs : List IndexRange) (es : List Entry) → AreApart rs → left_by (covers rs) 0 (flags es) + messages_within es rs ≡ messages_before es (length es)
all_but [] es h = omega (arith, left_all 0 es)
all_but (r ∷ rs) es h =
    let order : r.first ≤ r.last = h.each 0 r (omega arith) in
    let split = left_split (covers rs) (covers (r ∷ rs)) (lies_in r) 0 (flags es) (λ j. or_swap (lies_in r j) (covers rs j)) (λ j here. apart_behind r rs j h here) in
    let last : r.last + 1 - 0 ≡ r.last + 1 = omega arith in
    let first : r.first - 0 ≡ r.first = omega arith in
    let count = rw (last, first) at (left_between r.first r.last 0 es (omega (arith, order))) in
    omega (arith, split, count, all_but rs es (apart_tail r rs h))

-- all messages are the backlog and those in the ranges
pub backlog_beside : (set : List ℕ) (rs : List IndexRange) (es : List Entry) → AreRangesOf set rs → messages_before es (length es) ≡ backlog_from set 0 (flags es) + messages_within es rs
backlog_beside set rs es ranges =
    omega (arith, all_but rs es ranges.apart, left_same (covers rs) (has set) 0 (flags es) ranges.same, backlog_left set 0 (flags es))
