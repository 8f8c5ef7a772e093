-- How many messages are due, and that there is a consumer with a permit for the next one.
use Rattle.std.proofs.Common.{◌≡◌, ℕ, zero, suc, ◌+◌, ◌-◌, ◌<◌, ◌≤◌, ◌%◌, Bool, true, false, List, [], ◌∷◌, ◌++◌, length, map, refl, sym, ap, subst, ◌∙◌, ◌==◌, arith, nat_lt, nat_le, drop, take, sum, mod-lt}
use Rattle.std.specs.Prelude.{Some, None, if◌then◌else◌, ◌&&◌, slice_get, slice_set}
use Rattle.std.specs.List.{list_all}
use Rattle.std.proofs.lemmas.Bool.{eqb-true, false≢true}
use Rattle.std.proofs.lemmas.Bool.Decides.{nat_tests}
use Rattle.std.proofs.lemmas.List.Sums.{sum_by-cons}
use Rattle.std.proofs.lemmas.Option.{none-some, same_Some}
use Rattle.world_laws.proofs.Types.{Consumer, Entry, SubKind}
use Rattle.world_laws.proofs.Types.sub_kind
use Rattle.geo_base.specs.Dispatcher.{consumer_at, first_permitted, if_permitted, is_due, key_number, least_due_from, pick, served, used}
use Rattle.geo_base.specs.Entry.{is_data}
use Rattle.geo_base.specs.Laws.{due_from, has_permits}
use Rattle.geo_base.specs.Subscription.{Subscription}
use Rattle.world_laws.proofs.TopicOrder.Ledgers.{total}
use Rattle.world_laws.proofs.Walks.Walk.{by_test, left, right}
use Rattle.geo_base.proofs.Bools.{and_of_both}

-- where no more is due, no more messages are
fewer : (d a b : Bool) (x y : ℕ) → (a ≡ true → b ≡ true) → x ≤ y → (if d && a then 1 else 0) + x ≤ (if d && b then 1 else 0) + y
fewer false a b x y f le = omega (arith, le)
fewer true false false x y f le = omega (arith, le)
fewer true false true x y f le = omega (arith, le)
fewer true true false x y f le = absurd (false≢true (f refl))
fewer true true true x y f le = omega (arith, le)

pub due_fewer : (v u : Subscription) → ((j : ℕ) → is_due u j ≡ true → is_due v j ≡ true) → (k : ℕ) (es : List Entry) → due_from u k es ≤ due_from v k es
due_fewer v u less k [] = omega arith
due_fewer v u less k (e ∷ es) = fewer (is_data e.content) (is_due u k) (is_due v k) _ _ (less k) (due_fewer v u less (k + 1) es)

-- and where a message is due no more, one less
one_fewer : (d a b : Bool) (x y : ℕ) → d ≡ true → a ≡ false → b ≡ true → x ≤ y → (if d && a then 1 else 0) + x + 1 ≤ (if d && b then 1 else 0) + y
one_fewer false a b x y hd ha hb le = absurd (false≢true hd)
one_fewer true true b x y hd ha hb le = absurd (false≢true (sym ha))
one_fewer true false false x y hd ha hb le = absurd (false≢true hb)
one_fewer true false true x y hd ha hb le = omega (arith, le)

pub due_falls : (v u : Subscription) → ((j : ℕ) → is_due u j ≡ true → is_due v j ≡ true) → (k n : ℕ) (es : List Entry) (e : Entry) → slice_get es n ≡ Some e
    → is_data e.content ≡ true → is_due v (k + n) ≡ true → is_due u (k + n) ≡ false → due_from u k es + 1 ≤ due_from v k es
due_falls v u less k n [] e at plain due gone = absurd (none-some e at)
due_falls v u less k zero (x ∷ es) e at plain due gone =
    let here : k + 0 ≡ k = omega arith in
    one_fewer (is_data x.content) (is_due u k) (is_due v k) _ _ (subst (λ (y : Entry). is_data y.content ≡ true) (sym (same_Some _ _ at)) plain)
    (subst (λ j. is_due u j ≡ false) here gone) (subst (λ j. is_due v j ≡ true) here due) (due_fewer v u less (k + 1) es)
due_falls v u less k (suc n) (x ∷ es) e at plain due gone =
    let next : k + suc n ≡ k + 1 + n = omega arith in
    let rest = due_falls v u less (k + 1) n es e at plain (subst (λ j. is_due v j ≡ true) next due) (subst (λ j. is_due u j ≡ false) next gone) in
    let r = fewer (is_data x.content) (is_due u k) (is_due v k) (due_from u (k + 1) es + 1) (due_from v (k + 1) es) (less k) rest in
    omega (arith, r)

-- what is no message counts for nothing
pub due_push : (v : Subscription) (k : ℕ) (es : List Entry) (e : Entry) → is_data e.content ≡ false → due_from v k (es ++ e ∷ []) ≡ due_from v k es
due_push v k [] e other = ap (λ (d : Bool). (if d && is_due v k then 1 else 0) + 0) other
due_push v k (x ∷ es) e other = ap (λ (n : ℕ). (if is_data x.content && is_due v k then 1 else 0) + n) (due_push v (k + 1) es e other)

-- where none is least due, none is due
pub none_due : (v : Subscription) (from more : ℕ) → least_due_from v from more ≡ None → (j : ℕ) → from ≤ j → j < from + more → is_due v j ≡ false
none_due v from zero e j lo hi = absurd (omega (arith, lo, hi))
none_due v from (suc more) e j lo hi = by (is_due v from) refl e (λ e' le. none_due v (from + 1) more e' j le (omega (arith, hi)))
  where
    by : (t : Bool) → is_due v from ≡ t → (if t then Some from else least_due_from v (from + 1) more) ≡ None
        → (least_due_from v (from + 1) more ≡ None → from + 1 ≤ j → is_due v j ≡ false) → is_due v j ≡ false
    by true h e ih = absurd (none-some from (sym e))
    by false h e ih =
        by_test (from == j) (λ is. subst (λ k. is_due v k ≡ false) (eqb-true from j is) h) (λ other. ih e (grind (arith, nat_tests, other, lo)))

-- permits
abbrev permits_of : Consumer → ℕ
permits_of k = k.permits

abbrev has_many : ℕ → Consumer → Bool
has_many n k = nat_le n k.permits

sum_total : (xs : List ℕ) → sum xs ≡ total xs
sum_total [] = refl
sum_total (x ∷ xs) = sum_by-cons (λ (y : ℕ). y) x xs ∙ ap (λ (n : ℕ). x + n) (sum_total xs)

below_both : (a b c : ℕ) → a ≤ b → nat_le b c ≡ true → nat_le a c ≡ true
below_both a b c le h = grind (arith, nat_tests)

all_fewer : (n n' : ℕ) → n' ≤ n → (ks : List Consumer) → list_all (has_many n) ks ≡ true → list_all (has_many n') ks ≡ true
all_fewer n n' le [] h = refl
all_fewer n n' le (k ∷ ks) h = and_of_both (nat_le n' k.permits) _ (below_both n' n k.permits le (left (nat_le n k.permits) _ h)) (all_fewer n n' le ks (right (nat_le n k.permits) _ h))

-- permits for many are permits for fewer
pub permits_fewer : (kind : SubKind) (ks : List Consumer) (n n' : ℕ) → n' ≤ n → has_permits kind ks n ≡ true → has_permits kind ks n' ≡ true
permits_fewer sub_kind.Exclusive ks n n' le h = below_both n' n _ le h
permits_fewer sub_kind.Failover ks n n' le h = below_both n' n _ le h
permits_fewer sub_kind.Shared ks n n' le h = below_both n' n _ le h
permits_fewer sub_kind.KeyShared ks n n' le h = all_fewer n n' le ks h

-- where one is used, one less
one_used : (n n' p : ℕ) → n' + 1 ≤ n → nat_le n p ≡ true → nat_le n' (p - 1) ≡ true
one_used n n' p le h = grind (arith, nat_tests)

first_used : (ks : List Consumer) (n n' : ℕ) → n' + 1 ≤ n → nat_le n (consumer_at ks 0).permits ≡ true
    → nat_le n' (consumer_at (slice_set ks 0 (used (consumer_at ks 0))) 0).permits ≡ true
first_used [] n n' le h = one_used n n' 0 le h
first_used (k ∷ ks) n n' le h = one_used n n' k.permits le h

all_used : (ks : List Consumer) (at n n' : ℕ) → n' + 1 ≤ n → list_all (has_many n) ks ≡ true → list_all (has_many n') (slice_set ks at (used (consumer_at ks at))) ≡ true
all_used [] at n n' le h = refl
all_used (k ∷ ks) zero n n' le h =
    and_of_both (nat_le n' (k.permits - 1)) _ (one_used n n' k.permits le (left (nat_le n k.permits) _ h)) (all_fewer n n' (omega (arith, le)) ks (right (nat_le n k.permits) _ h))
all_used (k ∷ ks) (suc at) n n' le h =
    and_of_both (nat_le n' k.permits) _ (below_both n' n k.permits (omega (arith, le)) (left (nat_le n k.permits) _ h)) (all_used ks at n n' le (right (nat_le n k.permits) _ h))

total_push : (ks : List Consumer) (k : Consumer) → total (map permits_of (ks ++ k ∷ [])) ≡ total (map permits_of ks) + k.permits
total_push [] k = omega arith
total_push (x ∷ ks) k = let ih = total_push ks k in omega (arith, ih)

total_used : (at : ℕ) (ks : List Consumer) → total (map permits_of ks) ≤ 1 + total (map permits_of (take at ks ++ drop (suc at) ks ++ used (consumer_at ks at) ∷ []))
total_used at [] = omega arith
total_used zero (k ∷ ks) = let more = total_push ks (used k) in omega (arith, more)
total_used (suc at) (k ∷ ks) = let ih = total_used at ks in omega (arith, ih)

shared_used : (ks : List Consumer) (at n n' : ℕ) → n' + 1 ≤ n → nat_le n (sum (map permits_of ks)) ≡ true → nat_le n' (sum (map permits_of (served sub_kind.Shared ks at))) ≡ true
shared_used ks at n n' le h =
    let next : suc at ≡ at + 1 = omega arith in
    let P : ℕ → Type 0 = λ j. total (map permits_of ks) ≤ 1 + total (map permits_of (take at ks ++ drop j ks ++ used (consumer_at ks at) ∷ [])) in
    let fell : P (at + 1) = subst P next (total_used at ks) in
    let before = sum_total (map permits_of ks) in
    let after = sum_total (map permits_of (served sub_kind.Shared ks at)) in
    grind (arith, nat_tests, le, h, fell, before, after)

-- who is picked
if_at : (ks : List Consumer) (i at : ℕ) → if_permitted ks i ≡ Some at → i ≡ at
if_at ks i at e = by (nat_lt 0 (consumer_at ks i).permits) e
  where
    by : (t : Bool) → (if t then Some i else None) ≡ Some at → i ≡ at
    by true e = same_Some i at e
    by false e = absurd (none-some at e)

pub served_permits : (kind : SubKind) (ks : List Consumer) (key : List ℕ) (at n n' : ℕ) → pick kind ks key ≡ Some at → n' + 1 ≤ n → has_permits kind ks n ≡ true
    → has_permits kind (served kind ks at) n' ≡ true
served_permits sub_kind.Exclusive ks key at n n' is le h =
    subst (λ i. has_permits sub_kind.Exclusive (served sub_kind.Exclusive ks i) n' ≡ true) (if_at ks 0 at is) (first_used ks n n' le h)
served_permits sub_kind.Failover ks key at n n' is le h =
    subst (λ i. has_permits sub_kind.Failover (served sub_kind.Failover ks i) n' ≡ true) (if_at ks 0 at is) (first_used ks n n' le h)
served_permits sub_kind.Shared ks key at n n' is le h = shared_used ks at n n' le h
served_permits sub_kind.KeyShared ks key at n n' is le h = all_used ks at n n' le h

if_none : (ks : List Consumer) (at n : ℕ) → 1 ≤ n → nat_le n (consumer_at ks at).permits ≡ true → if_permitted ks at ≡ None → ⊥
if_none ks at n some h e = by (nat_lt 0 (consumer_at ks at).permits) refl e
  where
    by : (t : Bool) → nat_lt 0 (consumer_at ks at).permits ≡ t → (if t then Some at else None) ≡ None → ⊥
    by true lt e = none-some at (sym e)
    by false lt e = false≢true (sym lt ∙ grind (arith, nat_tests, some, h))

none_permitted : (i : ℕ) (ks : List Consumer) → first_permitted i ks ≡ None → total (map permits_of ks) ≡ 0
none_permitted i [] e = refl
none_permitted i (k ∷ ks) e = by (nat_lt 0 k.permits) refl e (none_permitted (i + 1) ks)
  where
    by : (t : Bool) → nat_lt 0 k.permits ≡ t → (if t then Some i else first_permitted (i + 1) ks) ≡ None
        → (first_permitted (i + 1) ks ≡ None → total (map permits_of ks) ≡ 0) → k.permits + total (map permits_of ks) ≡ 0
    by true lt e ih = absurd (none-some i (sym e))
    by false lt e ih = let rest = ih e in grind (arith, nat_tests, lt, rest)

all_at : (n at : ℕ) (ks : List Consumer) → at < length ks → list_all (has_many n) ks ≡ true → nat_le n (consumer_at ks at).permits ≡ true
all_at n at [] lt h = absurd (omega (arith, lt))
all_at n zero (k ∷ ks) lt h = left (nat_le n k.permits) _ h
all_at n (suc at) (k ∷ ks) lt h = all_at n at ks (omega (arith, lt)) (right (nat_le n k.permits) _ h)

shared_none : (ks : List Consumer) (n : ℕ) → 1 ≤ n → nat_le n (sum (map permits_of ks)) ≡ true → first_permitted 0 ks ≡ None → ⊥
shared_none ks n some h e =
    let is = sum_total (map permits_of ks) ∙ none_permitted 0 ks e in
    let none : nat_le n 0 ≡ true = subst (λ p. nat_le n p ≡ true) is h in
    false≢true (sym (above n some) ∙ none)
  where
    above : (n : ℕ) → 1 ≤ n → nat_le n 0 ≡ false
    above n some = grind (arith, nat_tests)

-- where a message is due, somebody
pub pick_some : (kind : SubKind) (ks : List Consumer) (key : List ℕ) (n : ℕ) → 0 < length ks → 1 ≤ n → has_permits kind ks n ≡ true → pick kind ks key ≡ None → ⊥
pick_some sub_kind.Exclusive ks key n here some h e = if_none ks 0 n some h e
pick_some sub_kind.Failover ks key n here some h e = if_none ks 0 n some h e
pick_some sub_kind.Shared ks key n here some h e = shared_none ks n some h e
pick_some sub_kind.KeyShared [] key n here some h e = omega (arith, here)
pick_some sub_kind.KeyShared (k ∷ ks) key n here some h e =
    let at = key_number key % length (k ∷ ks) in
    if_none (k ∷ ks) at n some (all_at n at (k ∷ ks) (mod-lt (key_number key) here) h) e

-- from the first entry on
pub due_falls_at : (v u : Subscription) → ((j : ℕ) → is_due u j ≡ true → is_due v j ≡ true) → (n : ℕ) (es : List Entry) (e : Entry) → slice_get es n ≡ Some e
    → is_data e.content ≡ true → is_due v n ≡ true → is_due u n ≡ false → due_from u 0 es + 1 ≤ due_from v 0 es
due_falls_at v u less n es e at plain due gone =
    let is : n ≡ 0 + n = omega arith in
    due_falls v u less 0 n es e at plain (subst (λ j. is_due v j ≡ true) is due) (subst (λ j. is_due u j ≡ false) is gone)
