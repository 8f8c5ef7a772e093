-- The backlog of a cursor after a write of it, by what the write acknowledges.
use Rattle.std.proofs.Common.{◌≡◌, ℕ, zero, suc, ◌+◌, ◌-◌, ◌<◌, ◌≤◌, ◌==◌, Bool, true, false, not, List, [], ◌∷◌, ◌++◌, inl, inr, length, map, drop, take, refl, sym, ◌∙◌, ap, subst, arith}
use Rattle.std.proofs.lemmas.Bool.{cases_lt, false≢true}
use Rattle.std.proofs.lemmas.Bool.Decides.{nat_tests}
use Rattle.std.proofs.lemmas.List.{drop_all}
use Rattle.std.proofs.lemmas.List.Sums.{sum_by-cons}
use Rattle.std.specs.List.{range_with_len}
use Rattle.std.specs.Prelude.{◌&&◌, ◌||◌, nat_le, Option, Some, None, if◌then◌else◌, slice_get}
use Rattle.cursor_acks.specs.Acks.{IsFirstOpen}
use Rattle.cursor_acks.proofs.Sets.{has_all, has_with_index, has_with_indexes}
use Rattle.geo_base.proofs.Bools.{both_true}
use Rattle.geo_base.specs.declared.entry.Entry.{Entry}
use Rattle.geo_base.specs.Cursor.{backlog_from, below, has, with_index, with_indexes}
use Rattle.geo_base.specs.Entry.{is_data}
use Rattle.replicated_subs.proofs.Walk.{passed_walk, to_open, walk}
use Rattle.step_lines.specs.Counting.{ascend, is_message_at, open_messages, passed, passes, passes_entry}
use Rattle.topic_store.specs.Messages.{is_message, messages_before}

abbrev pub flags : List Entry → List Bool
flags es = map (λ (e : Entry). is_data e.content) es

abbrev pub one : Bool → ℕ
one b = if b then 1 else 0

none_of : (b : Bool) → one (b && false) ≡ 0
none_of true = refl
none_of false = refl

-- ---- one index acknowledged

-- after it nothing is other
after : (set : List ℕ) (i k : ℕ) (ds : List Bool) → i < k → backlog_from (with_index set i) k ds ≡ backlog_from set k ds
after set i k [] lt = refl
after set i k (d ∷ ds) lt =
    let other : (i == k) ≡ false = grind (arith, nat_tests, lt) in
    let same : has (with_index set i) k ≡ has set k = grind (arith, nat_tests, has_with_index set i k, other) in
    ap (λ (t : Bool). one (d && not t) + backlog_from (with_index set i) (k + 1) ds) same
    ∙ ap (λ (n : ℕ). one (d && not (has set k)) + n) (after set i (k + 1) ds (omega (arith, lt)))

one_less : (d h t : Bool) → t ≡ true → one (d && not h) ≡ one (d && not t) + one (d && not h)
one_less true h t is = rw is (omega arith)
one_less false h t is = refl

none_there : (m : ℕ) (h : Bool) → one (is_message_at [] m && h) ≡ 0
none_there zero h = refl
none_there (suc m) h = refl

less_first : (set : List ℕ) (k : ℕ) (x : Entry) (es : List Entry)
    → backlog_from set k (flags (x ∷ es)) ≡ backlog_from (with_index set k) k (flags (x ∷ es)) + one (is_data x.content && not (has set k))
less_first set k x es =
    let self : has (with_index set k) k ≡ true = grind (arith, nat_tests, has_with_index set k k) in
    omega (arith, after set k (k + 1) (flags es) (omega arith), one_less (is_data x.content) (has set k) (has (with_index set k) k) self)

less : (set : List ℕ) (k m : ℕ) (es : List Entry) → backlog_from set k (flags es) ≡ backlog_from (with_index set (k + m)) k (flags es) + one (is_message_at es m && not (has set (k + m)))
less set k m [] = omega (arith, none_there m (not (has set (k + m))))
less set k zero (x ∷ es) =
    let here : k ≡ k + 0 = omega arith in
    subst (λ i. backlog_from set k (flags (x ∷ es)) ≡ backlog_from (with_index set i) k (flags (x ∷ es)) + one (is_data x.content && not (has set i))) here (less_first set k x es)
less set k (suc m) (x ∷ es) =
    let next : k + 1 + m ≡ k + suc m = omega arith in
    let rest = rw next at (less set (k + 1) m es) in
    let other : (k + suc m == k) ≡ false = grind (arith, nat_tests) in
    let same : has (with_index set (k + suc m)) k ≡ has set k = grind (arith, nat_tests, has_with_index set (k + suc m) k, other) in
    rw same (omega (arith, rest))

pub acked_one : (es : List Entry) (set : List ℕ) (i : ℕ) → open_messages es set ≡ open_messages es (with_index set i) + one (is_message_at es i && not (has set i))
acked_one es set i =
    let here : 0 + i ≡ i = omega arith in
    rw here at (less set 0 i es)

-- ---- each of some

drop_here : (xs : List ℕ) (i x : ℕ) → slice_get xs i ≡ Some x → drop i xs ≡ x ∷ drop (i + 1) xs
drop_here [] i x h = cc
drop_here (y ∷ xs) zero x h = cc
drop_here (y ∷ xs) (suc i) x h = let e : suc i + 1 ≡ suc (i + 1) = omega arith in rw e (drop_here xs i x h)

take_end : {X : Type 0} (xs : List X) (k : ℕ) (x : X) → slice_get xs k ≡ Some x → take (k + 1) xs ≡ take k xs ++ x ∷ []
take_end [] k x at = cc
take_end (y ∷ xs) zero x at = cc
take_end (y ∷ xs) (suc k) x at =
    let next : suc k + 1 ≡ suc (k + 1) = omega arith in
    rw next (ap (λ (ys : List _). y ∷ ys) (take_end xs k x at))

with_end : (set is : List ℕ) (i : ℕ) → with_indexes set (is ++ i ∷ []) ≡ with_index (with_indexes set is) i
with_end set [] i = refl
with_end set (j ∷ is) i = with_end (with_index set j) is i

abbrev pub with_first : List ℕ → List ℕ → ℕ → List ℕ
with_first set is k = with_indexes set (take k is)

first_next : (set is : List ℕ) (k i : ℕ) → slice_get is k ≡ Some i → with_first set is (k + 1) ≡ with_index (with_first set is k) i
first_next set is k i at = ap (with_indexes set) (take_end is k i at) ∙ with_end set (take k is) i

-- an index that was acknowledged neither before nor among the first of those
abbrev pub opens : List Entry → List ℕ → List ℕ → ℕ → Bool
opens es set acked i = is_message_at es i && not (has acked i || has set i)

each_less : (es : List Entry) (set is : List ℕ) (k i : ℕ) (acked : List ℕ) → slice_get is k ≡ Some i → has acked i ≡ has (take k is) i
    → open_messages es (with_first set is k) ≡ open_messages es (with_first set is (k + 1)) + one (opens es set acked i)
each_less es set is k i acked at are =
    let held : has (with_first set is k) i ≡ (has acked i || has set i) = has_with_indexes set (take k is) i ∙ ap (λ (t : Bool). t || has set i) (sym are) in
    acked_one es (with_first set is k) i
    ∙ (ap (λ (s : List ℕ). open_messages es s + one (is_message_at es i && not (has (with_first set is k) i))) (sym (first_next set is k i at))
    ∙ ap (λ (t : Bool). open_messages es (with_first set is (k + 1)) + one (is_message_at es i && not t)) held)

pub each_open : (es : List Entry) (set is : List ℕ) (k i : ℕ) (acked : List ℕ) (left : ℕ) → slice_get is k ≡ Some i → has acked i ≡ has (take k is) i → left ≡ open_messages es (with_first set is k)
    → opens es set acked i ≡ true → left - 1 ≡ open_messages es (with_first set is (k + 1))
each_open es set is k i acked left at are before open_ =
    let step = each_less es set is k i acked at are in
    let one_ : one (opens es set acked i) ≡ 1 = ap one open_ in
    omega (arith, step, before, one_)

pub each_closed : (es : List Entry) (set is : List ℕ) (k i : ℕ) (acked : List ℕ) (left : ℕ) → slice_get is k ≡ Some i → has acked i ≡ has (take k is) i → left ≡ open_messages es (with_first set is k)
    → opens es set acked i ≡ false → left ≡ open_messages es (with_first set is (k + 1))
each_closed es set is k i acked left at are before closed =
    let step = each_less es set is k i acked at are in
    let none : one (opens es set acked i) ≡ 0 = ap one closed in
    omega (arith, step, before, none)

-- ---- whether an index was named before

pub ascend_not : (low i k : ℕ) (is : List ℕ) (whole : Bool) → slice_get is k ≡ Some i → i < low → ascend low (drop k is) ≡ whole → false ≡ whole
ascend_not low i k is whole at lt before =
    let lower : nat_le low i ≡ false = grind (arith, nat_tests, lt) in
    sym (ap (λ (t : Bool). t && ascend (i + 1) (drop (k + 1) is)) lower) ∙ (sym (ap (ascend low) (drop_here is k i at)) ∙ before)

pub ascend_next : (low i k : ℕ) (is : List ℕ) (whole : Bool) → slice_get is k ≡ Some i → (i < low → ⊥) → ascend low (drop k is) ≡ whole → ascend (i + 1) (drop (k + 1) is) ≡ whole
ascend_next low i k is whole at above_it before =
    let within : nat_le low i ≡ true = grind (arith, nat_tests, above_it) in
    sym (ap (λ (t : Bool). t && ascend (i + 1) (drop (k + 1) is)) within) ∙ (sym (ap (ascend low) (drop_here is k i at)) ∙ before)

pub ascend_end : (low k : ℕ) (is : List ℕ) (whole : Bool) → length is ≤ k → ascend low (drop k is) ≡ whole → whole ≡ true
ascend_end low k is whole past before = sym before ∙ ap (ascend low) (drop_all k is past)

above : (low : ℕ) (is : List ℕ) (k i : ℕ) → ascend low is ≡ true → slice_get is k ≡ Some i → (low ≤ i) × (has (take k is) i ≡ false)
above low [] k i h at = absurd (cc)
above low (x ∷ is) zero i h at =
    let here : x ≡ i = cc in
    (grind (arith, nat_tests, both_true (nat_le low x) (ascend (x + 1) is) h, here), refl)
above low (x ∷ is) (suc k) i h at =
    let both = both_true (nat_le low x) (ascend (x + 1) is) h in
    let rest = above (x + 1) is k i both.1 at in
    (grind (arith, nat_tests, both.0, rest.0), grind (arith, nat_tests, rest.0, rest.1))

pub kept_here : (kept : Bool) (is : List ℕ) (k i : ℕ) (acked : List ℕ) → (kept ≡ false → ascend 0 is ≡ true) → slice_get is k ≡ Some i → acked ≡ with_first [] is (if kept then k else 0)
    → has acked i ≡ has (take k is) i
kept_here true is k i acked rises at are = ap (λ (s : List ℕ). has s i) are ∙ (has_with_indexes [] (take k is) i ∙ or_false (has (take k is) i))
  where
    or_false : (t : Bool) → (t || false) ≡ t
    or_false true = refl
    or_false false = refl
kept_here false is k i acked rises at are = ap (λ (s : List ℕ). has s i) are ∙ sym (above 0 is k i (rises refl) at).1

pub each_added : (is : List ℕ) (k i : ℕ) (old new : List ℕ) → slice_get is k ≡ Some i → old ≡ with_first [] is k → new ≡ with_index old i → new ≡ with_first [] is (k + 1)
each_added is k i old new at are added = added ∙ (ap (λ (s : List ℕ). with_index s i) are ∙ sym (first_next [] is k i at))

-- those that are kept, where they are
pub kept_more : (t : Bool) (is : List ℕ) (k i : ℕ) (old new : List ℕ) → t ≡ true → slice_get is k ≡ Some i → old ≡ with_first [] is (if t then k else 0) → new ≡ with_index old i
    → new ≡ with_first [] is (if t then k + 1 else 0)
kept_more true is k i old new kept at are added = each_added is k i old new at are added
kept_more false is k i old new kept at are added = absurd (false≢true kept)

pub kept_none : (t : Bool) (is : List ℕ) (k : ℕ) (old : List ℕ) → t ≡ false → old ≡ with_first [] is (if t then k else 0) → old ≡ with_first [] is (if t then k + 1 else 0)
kept_none true is k old none are = absurd (false≢true (sym none))
kept_none false is k old none are = are

-- ---- a walk

-- the messages of a walk that a set lacks
abbrev pub walk_messages : List Entry → (ℕ → Bool) → List ℕ → ℕ → ℕ → ℕ
walk_messages es p set k zero = 0
walk_messages es p set k (suc n) = one (is_message_at es k && (p k && not (has set k))) + walk_messages es p set (k + 1) n

walk_other : (es : List Entry) (p : ℕ → Bool) (set : List ℕ) (i k n : ℕ) → i < k → walk_messages es p (with_index set i) k n ≡ walk_messages es p set k n
walk_other es p set i k zero lt = refl
walk_other es p set i k (suc n) lt =
    let other : (i == k) ≡ false = grind (arith, nat_tests, lt) in
    let same : has (with_index set i) k ≡ has set k = grind (arith, nat_tests, has_with_index set i k, other) in
    let rest = walk_other es p set i (k + 1) n (omega (arith, lt)) in
    ap (λ (t : Bool). one (is_message_at es k && (p k && not t)) + walk_messages es p (with_index set i) (k + 1) n) same
    ∙ ap (λ (m : ℕ). one (is_message_at es k && (p k && not (has set k))) + m) rest

all_walked : (es : List Entry) (p : ℕ → Bool) (set : List ℕ) (k n : ℕ) → open_messages es set ≡ open_messages es (with_indexes set (walk p k n)) + walk_messages es p set k n
all_walked es p set k zero = omega arith
all_walked es p set k (suc n) = by (p k) (all_walked es p (with_index set k) (k + 1) n) (all_walked es p set (k + 1) n)
  where
    Walked : List ℕ → Type 0
    Walked s = open_messages es s ≡ open_messages es (with_indexes s (walk p (k + 1) n)) + walk_messages es p s (k + 1) n

    by : (b : Bool) → Walked (with_index set k) → Walked set → open_messages es set
        ≡ open_messages es (with_indexes set (if b then k ∷ walk p (k + 1) n else walk p (k + 1) n)) + (one (is_message_at es k && (b && not (has set k))) + walk_messages es p set (k + 1) n)
    by true more same = omega (arith, acked_one es set k, more, walk_other es p set k (k + 1) n (omega arith))
    by false more same = omega (arith, same, none_of (is_message_at es k))

walk_one : (es : List Entry) (p : ℕ → Bool) (set : List ℕ) (k end : ℕ) → k < end
    → walk_messages es p set k (end - k) ≡ one (is_message_at es k && (p k && not (has set k))) + walk_messages es p set (k + 1) (end - (k + 1))
walk_one es p set k end lt =
    let more : end - k ≡ suc (end - (k + 1)) = omega (arith, lt) in
    rw more refl

pub walk_over : (es : List Entry) (p : ℕ → Bool) (set : List ℕ) (k end : ℕ) → end ≤ k → walk_messages es p set k (end - k) ≡ 0
walk_over es p set k end le =
    let none : end - k ≡ 0 = omega (arith, le) in
    rw none refl

acked_there : (d b h : Bool) → h ≡ true → one (d && (b && not h)) ≡ 0
acked_there true true h is = rw is refl
acked_there true false h is = refl
acked_there false b h is = refl

-- an acknowledged index is passed by
over_acked : (es : List Entry) (p : ℕ → Bool) (set : List ℕ) (end j : ℕ) → has set j ≡ true → walk_messages es p set j (end - j) ≡ walk_messages es p set (j + 1) (end - (j + 1))
over_acked es p set end j acked = elim (cases_lt j end) [
  | inl lt ↦ omega (arith, walk_one es p set j end lt, acked_there (is_message_at es j) (p j) (has set j) acked)
  | inr le ↦ walk_over es p set j end le ∙ sym (walk_over es p set (j + 1) end (omega (arith, le)))
]

to_next : (es : List Entry) (p : ℕ → Bool) (set : List ℕ) (end k a : ℕ) → IsFirstOpen set k a → walk_messages es p set k (end - k) ≡ walk_messages es p set a (end - a)
to_next es p set end k a first = to_open (λ j. walk_messages es p set j (end - j)) set k a first (over_acked es p set end)

below_walk : (k n : ℕ) → range_with_len k n ≡ walk (λ j. true) k n
below_walk k zero = refl
below_walk k (suc n) = ap (λ (js : List ℕ). k ∷ js) (below_walk (k + 1) n)

is_walk : (from : Option ℕ) (es : List Entry) (n : ℕ) → passed from es n ≡ walk (passes from es) 0 n
is_walk None es n = below_walk 0 n
is_walk (Some y) es n = passed_walk y n es

pub walk_begins : (es : List Entry) (from : Option ℕ) (set : List ℕ) (end a : ℕ) → IsFirstOpen set 0 a
    → open_messages es set ≡ open_messages es (with_indexes set (passed from es end)) + walk_messages es (passes from es) set a (end - a)
walk_begins es from set end a first =
    let all = all_walked es (passes from es) set 0 end in
    let skip = to_next es (passes from es) set end 0 a first in
    let whole : end - 0 ≡ end = omega arith in
    let skip' = rw whole at skip in
    let is = ap (λ (js : List ℕ). open_messages es (with_indexes set js)) (is_walk from es end) in
    omega (arith, all, skip', is)

open_here : (d b h : Bool) → h ≡ false → one (d && (b && not h)) ≡ one (d && b)
open_here true true h is = rw is refl
open_here true false h is = refl
open_here false b h is = refl

pub walk_goes : (es : List Entry) (p : ℕ → Bool) (set : List ℕ) (end k a : ℕ) → k < end → has set k ≡ false → IsFirstOpen set (k + 1) a
    → walk_messages es p set k (end - k) ≡ one (is_message_at es k && p k) + walk_messages es p set a (end - a)
walk_goes es p set end k a lt free first =
    omega (arith, walk_one es p set k end lt, open_here (is_message_at es k) (p k) (has set k) free, to_next es p set end (k + 1) a first)

pub passes_here : (from : Option ℕ) (es : List Entry) (i : ℕ) (e : Entry) → slice_get es i ≡ Some e → passes_entry from e ≡ passes from es i
passes_here None es i e at = refl
passes_here (Some y) es i e at = rw at refl

-- ---- all below an index

next_before : (e : Entry) (es : List Entry) (k : ℕ) → messages_before (e ∷ es) (suc k) ≡ one (is_data e.content) + messages_before es k
next_before e es k = sum_by-cons (λ (x : Entry). if is_message x then 1 else 0) e (take k es)

nothing : (k : ℕ) → messages_before [] k ≡ 0
nothing zero = refl
nothing (suc k) = refl

free : (d h : Bool) → h ≡ false → one (d && not h) ≡ one d
free true h is = rw is refl
free false h is = refl

taken : (d h : Bool) → h ≡ true → one (d && not h) ≡ 0
taken true h is = rw is refl
taken false h is = refl

below_from : (i k : ℕ) (es : List Entry) → backlog_from (below i) k (flags es) + messages_before es (i - k) ≡ messages_before es (length es)
below_from i k [] = omega (arith, nothing (i - k), nothing 0)
below_from i k (e ∷ es) = elim (cases_lt k i) [
  | inl lt ↦
      let more : i - k ≡ suc (i - (k + 1)) = omega (arith, lt) in
      let here : has (below i) k ≡ true = grind (arith, nat_tests, has_all i k, lt) in
      rw more (omega (arith, taken (is_data e.content) (has (below i) k) here, next_before e es (i - (k + 1)), next_before e es (length es), below_from i (k + 1) es))
  | inr le ↦
      let none : i - k ≡ 0 = omega (arith, le) in
      let none' : i - (k + 1) ≡ 0 = omega (arith, le) in
      let here : has (below i) k ≡ false = grind (arith, nat_tests, has_all i k, le) in
      let rest = rw none' at (below_from i (k + 1) es) in
      rw none (omega (arith, free (is_data e.content) (has (below i) k) here, next_before e es (length es), rest))
]

pub all_from : (es : List Entry) (i : ℕ) → open_messages es (below i) ≡ messages_before es (length es) - messages_before es i
all_from es i =
    let whole : i - 0 ≡ i = omega arith in
    let all = rw whole at (below_from i 0 es) in
    omega (arith, all)

past : (k : ℕ) (es : List Entry) → length es ≤ k → messages_before es k ≡ messages_before es (length es)
past k [] le = nothing k
past zero (e ∷ es) le = absurd (omega (arith, le))
past (suc k) (e ∷ es) le = omega (arith, next_before e es k, next_before e es (length es), past k es (omega (arith, le)))

pub none_from : (es : List Entry) (i : ℕ) → length es ≤ i → open_messages es (below i) ≡ 0
none_from es i le = omega (arith, all_from es i, past i es le)
