-- The ids of snapshots are texts: equal only where name and position are, and never equal to the id of a second round.
use Rattle.std.proofs.Common.{◌≡◌, ℕ, suc, ◌+◌, ◌^◌, ◌<◌, ◌≤◌, Bool, true, false, List, [], ◌∷◌, ◌++◌, length, refl, sym, ap, subst, ◌∙◌, ◌==◌, arith}
use Rattle.std.specs.Prelude.{◌||◌, decimal}
use Rattle.std.specs.Char.{digit_value}
use Rattle.std.specs.Str.Parse.{AllDigits}
use Rattle.std.proofs.lemmas.Bool.{eq-eqb, eqb-true, false≢true}
use Rattle.std.proofs.lemmas.Fmt.{decimal_injective, decimal_is_IsNumeral, length-decimal-le}
use Rattle.std.proofs.lemmas.List.{length-append}
use Rattle.world_laws.proofs.Types.{Position}
use Rattle.geo_base.specs.SnapshotBuilder.{second_id, snapshot_id}
use Rattle.geo_base.specs.Cursor.{has}
use Rattle.world_laws.proofs.OnceInOrder.Members.{head_is, tail_is}

neither : (a b : Bool) → (a || b) ≡ false → (a ≡ false) × (b ≡ false)
neither true b h = absurd (false≢true (sym h))
neither false b h = (refl, h)

not_head : (k c : ℕ) (cs : List ℕ) → has (c ∷ cs) k ≡ false → k ≡ c → ⊥
not_head k c cs none is = false≢true (sym (neither (c == k) (has cs k) none).0 ∙ eq-eqb c k (sym is))

-- two texts that are cut at the first byte k
pub split_same : (k : ℕ) (us bs cs ds : List ℕ) → has us k ≡ false → has cs k ≡ false → us ++ k ∷ bs ≡ cs ++ k ∷ ds → (us ≡ cs) × (bs ≡ ds)
split_same k [] bs [] ds h g is = (refl, tail_is k k bs ds is)
split_same k [] bs (c ∷ cs) ds h g is = absurd (not_head k c cs g (head_is k k c bs (cs ++ k ∷ ds) is))
split_same k (a ∷ us) bs [] ds h g is = absurd (not_head k a us h (sym (head_is k a k (us ++ k ∷ bs) ds is)))
split_same k (a ∷ us) bs (c ∷ cs) ds h g is =
    let same = head_is k a c (us ++ k ∷ bs) (cs ++ k ∷ ds) is in
    let rest = split_same k us bs cs ds (neither (a == k) (has us k) h).1 (neither (c == k) (has cs k) g).1 (tail_is a c (us ++ k ∷ bs) (cs ++ k ∷ ds) is) in
    (ap (λ (n : ℕ). n ∷ us) same ∙ ap (λ (l : List ℕ). c ∷ l) rest.0, rest.1)

digits_lack : (k : ℕ) (ds : List ℕ) → (digit_value k < 10 → ⊥) → AllDigits 10 ds → has ds k ≡ false
digits_lack k [] other h = refl
digits_lack k (d ∷ ds) other h = by (d == k) refl (digits_lack k ds other h.1)
  where
    by : (t : Bool) → (d == k) ≡ t → has ds k ≡ false → (t || has ds k) ≡ false
    by true e ih = absurd (other (subst (λ (n : ℕ). digit_value n < 10) (eqb-true d k e) h.0))
    by false e ih = ih

-- a number's text has no byte 58, and none 47
decimal_lacks : (k n : ℕ) → (digit_value k < 10 → ⊥) → n < 2 ^ 64 → has (decimal n) k ≡ false
decimal_lacks k n other lt = digits_lack k (decimal n) other (decimal_is_IsNumeral n lt).0.1

no_colon : digit_value 58 < 10 → ⊥
no_colon lt = omega (arith, lt)

no_slash : digit_value 47 < 10 → ⊥
no_slash lt = omega (arith, lt)

-- a position whose numbers are written whole
pub record IsSmall (p : Position) : Type 0 where
  pub ledger : p.ledger < 2 ^ 64
  pub entry : p.entry < 2 ^ 64

pub id_same : (m n : List ℕ) (p q : Position) → has m 58 ≡ false → has n 58 ≡ false → IsSmall p → IsSmall q → snapshot_id m p ≡ snapshot_id n q → (m ≡ n) × (p ≡ q)
id_same m n p q no_m no_n small_p small_q is =
    let names = split_same 58 m (decimal p.ledger ++ 58 ∷ decimal p.entry) n (decimal q.ledger ++ 58 ∷ decimal q.entry) no_m no_n is in
    let numbers =
    split_same 58 (decimal p.ledger) (decimal p.entry) (decimal q.ledger) (decimal q.entry) (decimal_lacks 58 p.ledger no_colon small_p.ledger)
    (decimal_lacks 58 q.ledger no_colon small_q.ledger) names.1 in
    let ledger : p.ledger ≡ q.ledger = decimal_injective p.ledger q.ledger small_p.ledger small_q.ledger numbers.0 in
    let entry : p.entry ≡ q.entry = decimal_injective p.entry q.entry small_p.entry small_q.entry numbers.1 in
    (names.0, λ i. record { ledger = ledger i; entry = entry i })

longer : (us ts : List ℕ) (b : ℕ) → length ts ≡ length ((b ∷ us) ++ ts) → ⊥
longer us ts b is = go us is
  where
    size : (xs : List ℕ) → length (xs ++ ts) ≡ length xs + length ts
    size [] = omega arith
    size (x ∷ xs) = let h = size xs in omega (arith, h)

    go : (xs : List ℕ) → length ts ≡ suc (length (xs ++ ts)) → ⊥
    go xs h = let s = size xs in omega (arith, h, s)

-- the same end taken off
end_same : (ts us bs : List ℕ) → us ++ ts ≡ bs ++ ts → us ≡ bs
end_same ts [] [] is = refl
end_same ts [] (b ∷ bs) is = absurd (longer bs ts b (ap (λ (l : List ℕ). length l) is))
end_same ts (a ∷ us) [] is = absurd (longer us ts a (sym (ap (λ (l : List ℕ). length l) is)))
end_same ts (a ∷ us) (b ∷ bs) is =
    ap (λ (n : ℕ). n ∷ us) (head_is a a b (us ++ ts) (bs ++ ts) is) ∙ ap (λ (l : List ℕ). b ∷ l) (end_same ts us bs (tail_is a b (us ++ ts) (bs ++ ts) is))

pub second_same : (a b : List ℕ) → second_id a ≡ second_id b → a ≡ b
second_same a b is = end_same (47 ∷ 50 ∷ []) a b is

has_there : (k : ℕ) (xs ys : List ℕ) → has (xs ++ k ∷ ys) k ≡ true
has_there k [] ys = ap (λ (b : Bool). b || has ys k) (eq-eqb k k refl)
has_there k (x ∷ xs) ys = by (x == k) (has_there k xs ys)
  where
    by : (b : Bool) → has (xs ++ k ∷ ys) k ≡ true → (b || has (xs ++ k ∷ ys) k) ≡ true
    by true h = refl
    by false h = h

lack_both : (k : ℕ) (xs ys : List ℕ) → has xs k ≡ false → has ys k ≡ false → has (xs ++ ys) k ≡ false
lack_both k [] ys h g = g
lack_both k (x ∷ xs) ys h g = let n = neither (x == k) (has xs k) h in ap (λ (b : Bool). b || has (xs ++ ys) k) n.0 ∙ lack_both k xs ys n.1 g

-- no first id is one of a second round
pub not_second : (m a : List ℕ) (p : Position) → has m 47 ≡ false → IsSmall p → snapshot_id m p ≡ second_id a → ⊥
not_second m a p no_slash_in small is =
    let entry : has (58 ∷ decimal p.entry) 47 ≡ false = decimal_lacks 47 p.entry no_slash small.entry in
    let both : has (58 ∷ (decimal p.ledger ++ (58 ∷ decimal p.entry))) 47 ≡ false =
    lack_both 47 (decimal p.ledger) (58 ∷ decimal p.entry) (decimal_lacks 47 p.ledger no_slash small.ledger) entry in
    let none : has (snapshot_id m p) 47 ≡ false = lack_both 47 m (58 ∷ (decimal p.ledger ++ (58 ∷ decimal p.entry))) no_slash_in both in
    false≢true (sym none ∙ (ap (λ (l : List ℕ). has l 47) is ∙ has_there 47 a (50 ∷ [])))

-- An id is short: a name of at most 16 bytes, two numbers of 64 bits, which take at most 20 digits each, and what joins them
pub id_short : (m : List ℕ) (p : Position) → length m ≤ 16 → IsSmall p → length (snapshot_id m p) ≤ 58
id_short m p short small =
    let ledger = length-decimal-le 20 p.ledger (omega arith) (omega (arith, small.ledger)) small.ledger in
    let entry = length-decimal-le 20 p.entry (omega arith) (omega (arith, small.entry)) small.entry in
    let numbers = length-append (decimal p.ledger) (58 ∷ decimal p.entry) in
    let whole = length-append m (58 ∷ (decimal p.ledger ++ (58 ∷ decimal p.entry))) in
    omega (arith, short, ledger, entry, numbers, whole)

pub second_short : (a : List ℕ) → length (second_id a) ≡ length a + 2
second_short a = let whole = length-append a (47 ∷ 50 ∷ []) in omega (arith, whole)
