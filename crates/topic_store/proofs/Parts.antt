-- First indexes from the ledgers' lengths, those lengths from first indexes, and messages counted entry after entry.
use Rattle.std.proofs.Common.{◌≡◌, ◌∙◌, ℕ, suc, ◌+◌, ◌-◌, ◌<◌, ◌≤◌, nat_lt, Bool, true, false, List, [], ◌∷◌, ◌++◌, length, get_or, take, refl, ap, sym, subst, arith}
use Rattle.std.specs.Prelude.{if◌then◌else◌}
use Rattle.std.specs.List.{sum}
use Rattle.std.proofs.lemmas.List.{get_or_default, get_or_past, length-take, take_all, take_more}
use Rattle.std.proofs.lemmas.List.Sums.{sum_by_more_le}
use Rattle.std.proofs.lemmas.Bool.Decides.{nat_tests}
use Rattle.geo_base.specs.declared.entry.Entry.{Entry}
use Rattle.topic_store.specs.Firsts.{lengths_of, AreFirsts}
use Rattle.topic_store.specs.Messages.{is_message, CountMessages}
use Rattle.topic_store.proofs.Counts.{count_fits, counted_push}
use Rattle.topic_store.proofs.FirstIndexes.{count_of_lengths, firsts_push, length_at, lengths_pushed, rising_more, sum_of_lengths}

-- ledger 0 begins at 0

pub one_ledger : (ls : List ℕ) → 0 < length ls → AreFirsts (0 ∷ []) (get_or ls 0 0)
one_ledger ls h = record {
  opened = omega arith;
  begun = refl;
  rising = record {
    rise = λ i j l k. let z : i ≡ 0 = omega arith in let y : j ≡ 0 = omega arith in rw (z, y) (omega arith);
    within = λ i k. let z : i ≡ 0 = omega arith in rw z (omega arith);
  };
}

pub one_length : (ls : List ℕ) → 0 < length ls → lengths_of (0 ∷ []) (get_or ls 0 0) ≡ take 1 ls
one_length [] h = absurd (omega arith)
one_length (l ∷ ls) h = ap (λ (m : ℕ). m ∷ []) (omega arith)

-- each next one begins where those before it end

pub firsts_more : (fs : List ℕ) (n m : ℕ) → AreFirsts fs n → AreFirsts (fs ++ n ∷ []) (n + m)
firsts_more fs n m a = rising_more (fs ++ n ∷ []) n (n + m) (omega arith) (firsts_push fs n a)

pub lengths_more : (fs ls : List ℕ) (n k : ℕ) → k < length ls → lengths_of fs n ≡ take k ls → lengths_of (fs ++ n ∷ []) (n + get_or ls k 0) ≡ take (k + 1) ls
lengths_more fs ls n k h e =
    let added : n + get_or ls k 0 - n ≡ get_or ls k 0 = omega arith in
    lengths_pushed fs n (n + get_or ls k 0) ∙ ap (λ (m : ℕ). lengths_of fs n ++ m ∷ []) added
    ∙ ap (λ (xs : List ℕ). xs ++ get_or ls k 0 ∷ []) e ∙ sym (take_more ls k 0 h)

-- all of them have all entries

ends_at : (fs ls : List ℕ) (n k : ℕ) → AreFirsts fs n → lengths_of fs n ≡ take k ls → sum (take k ls) ≡ n
ends_at fs ls n k a e = ap sum (sym e) ∙ sum_of_lengths fs n a

end_is : (fs ls : List ℕ) (n k : ℕ) → AreFirsts fs n → length ls ≤ k → lengths_of fs n ≡ take k ls → n ≡ sum ls
end_is fs ls n k a h e = sym (ends_at fs ls n k a e) ∙ ap sum (take_all k ls h)

pub ends_below : (fs ls : List ℕ) (n k : ℕ) → AreFirsts fs n → lengths_of fs n ≡ take k ls → k < length ls → n + get_or ls k 0 ≤ sum ls
ends_below fs ls n k a e h = omega (arith, ends_at fs ls n k a e, sum_by_more_le (λ (x : ℕ). x) ls k 0 h)

pub has_all : (fs ls : List ℕ) (n k : ℕ) → AreFirsts fs n → length ls ≤ k → lengths_of fs n ≡ take k ls → AreFirsts fs (sum ls)
has_all fs ls n k a h e = subst (λ (m : ℕ). AreFirsts fs m) (end_is fs ls n k a h e) a

pub has_lengths : (fs ls : List ℕ) (n k : ℕ) → AreFirsts fs n → length ls ≤ k → lengths_of fs n ≡ take k ls → lengths_of fs (sum ls) ≡ ls
has_lengths fs ls n k a h e = ap (λ (m : ℕ). lengths_of fs m) (sym (end_is fs ls n k a h e)) ∙ e ∙ take_all k ls h

-- the lengths of ledgers, one after another

end_at : (fs : List ℕ) (n k : ℕ) (b : Bool) → nat_lt (k + 1) (length fs) ≡ b → AreFirsts fs n → k < length fs → get_or fs k 0 ≤ get_or fs (k + 1) n
end_at fs n k true e a h =
    let l : k + 1 < length fs = grind (arith, nat_tests) in
    omega (arith, a.rising.rise k (k + 1) (omega arith) l, get_or_default fs (k + 1) n 0 l)
end_at fs n k false e a h =
    let l : length fs ≤ k + 1 = grind (arith, nat_tests) in
    omega (arith, a.rising.within k h, get_or_past fs (k + 1) n l)

pub end_above : (fs : List ℕ) (n k : ℕ) → AreFirsts fs n → k < length fs → get_or fs k 0 ≤ get_or fs (k + 1) n
end_above fs n k a h = end_at fs n k (nat_lt (k + 1) (length fs)) refl a h

pub length_more : (fs : List ℕ) (n k : ℕ) → k < length fs → take (k + 1) (lengths_of fs n) ≡ take k (lengths_of fs n) ++ (get_or fs (k + 1) n - get_or fs k 0) ∷ []
length_more fs n k h =
    let next : suc k ≡ k + 1 = omega arith in
    take_more (lengths_of fs n) k 0 (omega (arith, count_of_lengths fs n))
    ∙ ap (λ (m : ℕ). take k (lengths_of fs n) ++ m ∷ []) (length_at fs n k h ∙ ap (λ (m : ℕ). get_or fs m n - get_or fs k 0) next)

pub all_lengths : (fs : List ℕ) (n k : ℕ) → length fs ≤ k → take k (lengths_of fs n) ≡ lengths_of fs n
all_lengths fs n k h = take_all k (lengths_of fs n) (omega (arith, count_of_lengths fs n))

-- messages up to each entry, one after another

pub none_counted : (es : List Entry) → CountMessages (take 0 es) []
none_counted es = record { many = refl; each = λ k h. absurd (omega arith) }

pub count_small : (es : List Entry) (ms : List ℕ) (k : ℕ) → CountMessages (take k es) ms → get_or ms (length ms - 1) 0 ≤ k
count_small es ms k c = omega (arith, count_fits (take k es) ms c, c.many, length-take k es)

pub counted_more : (es : List Entry) (ms : List ℕ) (k n : ℕ) (d : Entry) → k < length es → CountMessages (take k es) ms → n ≡ get_or ms (length ms - 1) 0 + (if is_message (get_or es k d) then 1 else 0) → CountMessages (take (k + 1) es) (ms ++ n ∷ [])
counted_more es ms k n d h c e = rw (take_more es k d h) (counted_push (take k es) ms (get_or es k d) n c e)

pub counted_all : (es : List Entry) (ms : List ℕ) (k : ℕ) → length es ≤ k → CountMessages (take k es) ms → CountMessages es ms
counted_all es ms k h c = rw (← take_all k es h) c
