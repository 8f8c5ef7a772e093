-- How many snapshots a mark-delete passes, and what is then the last one and what is left.
use Rattle.std.proofs.Common.{◌≡◌, ℕ, zero, suc, ◌+◌, ◌<◌, ◌≤◌, nat_lt, Bool, true, false, List, [], ◌∷◌, length, drop, get_or, drop-cons, refl, arith, ap, sym, ◌∙◌}
use Rattle.std.specs.Prelude.{Option, Some, None, slice_index_or, if◌then◌else◌}
use Rattle.geo_base.specs.declared.snapshot.CachedSnapshot.{CachedSnapshot}
use Rattle.geo_base.specs.declared.snapshot.Cut.{Cut}
use Rattle.geo_base.specs.Cache.{any_passed, last_passed, not_passed}
use Rattle.replicated_subs.specs.Counting.{cut_of_last, passed_count}

pub none_counted : (mark : ℕ) (cs : List CachedSnapshot) → any_passed mark cs ≡ false → passed_count mark cs ≡ 0
none_counted mark [] h = refl
none_counted mark (c ∷ cs) h = rw h refl

pub count_within : (mark : ℕ) (cs : List CachedSnapshot) → passed_count mark cs ≤ length cs
count_within mark [] = omega arith
count_within mark (c ∷ cs) = grind (arith, count_within mark cs)

-- what a walk has counted when it comes to place n, where cs are those from there on and the whole count is all
abbrev pub counted_from : ℕ → ℕ → ℕ → List CachedSnapshot → ℕ
counted_from mark n count cs = if any_passed mark cs then n + passed_count mark cs else count

pub counted_step : (mark n count : ℕ) (c : CachedSnapshot) (cs : List CachedSnapshot) → counted_from mark n count (c ∷ cs) ≡ counted_from mark (n + 1) (if nat_lt c.index mark then n + 1 else count) cs
counted_step mark n count c cs = grind (arith, none_counted mark cs)

pub count_first : (mark : ℕ) (cs : List CachedSnapshot) → counted_from mark 0 0 cs ≡ passed_count mark cs
count_first mark cs = grind (arith, none_counted mark cs)

pub count_next : (mark k count next : ℕ) (cs : List CachedSnapshot) (d : CachedSnapshot) → k < length cs → next ≡ (if nat_lt (get_or cs k d).index mark then k + 1 else count) → counted_from mark (k + 1) next (drop (k + 1) cs) ≡ counted_from mark k count (drop k cs)
count_next mark k count next cs d lt new =
    let more : k + 1 ≡ suc k = omega arith in
    ap (λ n. counted_from mark (k + 1) next (drop n cs)) more
    ∙ ap (λ n. counted_from mark (k + 1) n (drop (suc k) cs)) new
    ∙ sym (counted_step mark k count (get_or cs k d) (drop (suc k) cs))
    ∙ ap (λ l. counted_from mark k count l) (sym (drop-cons cs k d lt))

-- the cut of a snapshot, where there is one
abbrev pub cut_of : Option CachedSnapshot → Option Cut
cut_of None = None
cut_of (Some c) = Some c.cut

left_step : (mark : ℕ) (c : CachedSnapshot) (cs : List CachedSnapshot) (b : Bool) → any_passed mark (c ∷ cs) ≡ b → not_passed mark cs ≡ drop (passed_count mark cs) cs → not_passed mark (c ∷ cs) ≡ drop (passed_count mark (c ∷ cs)) (c ∷ cs)
left_step mark c cs true e h = rw e h
left_step mark c cs false e h = rw e refl

pub left_is : (mark : ℕ) (cs : List CachedSnapshot) → not_passed mark cs ≡ drop (passed_count mark cs) cs
left_is mark [] = refl
left_is mark (c ∷ cs) = left_step mark c cs (any_passed mark (c ∷ cs)) refl (left_is mark cs)

count_some : (mark : ℕ) (cs : List CachedSnapshot) → any_passed mark cs ≡ true → 0 < passed_count mark cs
count_some mark [] h = absurd (cc)
count_some mark (c ∷ cs) h = rw h (omega arith)

cut_of_next : (n : ℕ) (c : CachedSnapshot) (cs : List CachedSnapshot) → 0 < n → cut_of_last n cs ≡ cut_of_last (suc n) (c ∷ cs)
cut_of_next zero c cs h = absurd (omega arith)
cut_of_next (suc n) c cs h = refl

last_step : (mark : ℕ) (c : CachedSnapshot) (cs : List CachedSnapshot) (later : Bool) → any_passed mark cs ≡ later → (own : Bool) → nat_lt c.index mark ≡ own → last_passed mark cs ≡ cut_of_last (passed_count mark cs) cs → last_passed mark (c ∷ cs) ≡ cut_of_last (passed_count mark (c ∷ cs)) (c ∷ cs)
last_step mark c cs true e true f h = rw (e, f) (h ∙ cut_of_next (passed_count mark cs) c cs (count_some mark cs e))
last_step mark c cs true e false f h = rw (e, f) (h ∙ cut_of_next (passed_count mark cs) c cs (count_some mark cs e))
last_step mark c cs false e true f h = rw (e, f, none_counted mark cs e) refl
last_step mark c cs false e false f h = rw (e, f) refl

pub last_is : (mark : ℕ) (cs : List CachedSnapshot) → last_passed mark cs ≡ cut_of_last (passed_count mark cs) cs
last_is mark [] = refl
last_is mark (c ∷ cs) = last_step mark c cs (any_passed mark cs) refl (nat_lt c.index mark) refl (last_is mark cs)

pub cut_at : (n : ℕ) (cs : List CachedSnapshot) (d : CachedSnapshot) → n < length cs → cut_of_last (suc n) cs ≡ Some (get_or cs n d).cut
cut_at n [] d h = absurd (omega arith)
cut_at zero (c ∷ cs) d h = refl
cut_at (suc n) (c ∷ cs) d h = cut_at n cs d (omega arith)

-- the last of as many as are passed is the last one that is passed
pub last_at : (mark n count : ℕ) (cs : List CachedSnapshot) (d : CachedSnapshot) → count ≡ passed_count mark cs → n + 1 ≡ count → last_passed mark cs ≡ Some (get_or cs n d).cut
last_at mark n count cs d all last =
    let next : passed_count mark cs ≡ suc n = omega (arith, all, last) in
    last_is mark cs ∙ ap (λ k. cut_of_last k cs) next ∙ cut_at n cs d (omega (arith, next, count_within mark cs))

pub none_at : (mark count : ℕ) (cs : List CachedSnapshot) → count ≡ passed_count mark cs → count ≡ 0 → None ≡ last_passed mark cs
none_at mark count cs all none = sym (last_is mark cs ∙ ap (λ k. cut_of_last k cs) (sym all ∙ none))

-- the one that is taken out next is the last of one more
first_of : (n : ℕ) (all : List CachedSnapshot) (first : Option CachedSnapshot) → n < length all → ((d : CachedSnapshot) → first ≡ Some (slice_index_or (drop n all) 0 d)) → cut_of first ≡ cut_of_last (suc n) all
first_of n [] first lt is = absurd (omega arith)
first_of zero (c ∷ cs) first lt is = ap (λ s. cut_of s) (is c)
first_of (suc n) (c ∷ cs) first lt is = first_of n cs first (omega arith) is

pub cut_next : (n : ℕ) (all cs : List CachedSnapshot) (first : Option CachedSnapshot) → n < length all → cs ≡ drop n all → ((d : CachedSnapshot) → first ≡ Some (slice_index_or cs 0 d)) → cut_of first ≡ cut_of_last (n + 1) all
cut_next n all cs first lt e is =
    let more : suc n ≡ n + 1 = omega arith in
    first_of n all first lt (λ d. is d ∙ ap (λ l. Some (slice_index_or l 0 d)) e) ∙ ap (λ k. cut_of_last k all) more
