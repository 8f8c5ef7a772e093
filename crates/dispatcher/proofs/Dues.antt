-- Which indexes are due, and which are never due again.
use Rattle.std.proofs.Common.{◌≡◌, ℕ, zero, suc, ◌+◌, ◌<◌, ◌≤◌, ◌==◌, Bool, true, false, List, [], ◌∷◌, inl, inr, refl, ap, arith}
use Rattle.std.specs.Prelude.{Option, Some, ◌&&◌, not, if◌then◌else◌, max, nat_le}
use Rattle.std.specs.List.{filter}
use Rattle.std.proofs.lemmas.Bool.{cases_lt}
use Rattle.std.proofs.lemmas.Bool.Decides.{nat_tests}
use Rattle.geo_base.specs.Cursor.{has}
use Rattle.geo_base.specs.Dispatcher.{is_due, least_due, least_due_from}
use Rattle.geo_base.specs.Subscription.{Subscription}
use Rattle.dispatcher.specs.Dispatch.{Dispatch, sub_with}

-- no index below m is due, whatever the cursor gains
abbrev pub PastBelow : ℕ → Dispatch → List ℕ → Type 0
PastBelow m d cursor = (j : ℕ) → j < m → is_due (sub_with cursor d) j ≡ false

pub has_filter : (p : ℕ → Bool) (xs : List ℕ) (j : ℕ) → has (filter p xs) j ≡ (p j && has xs j)
has_filter p [] j = grind (arith)
has_filter p (x ∷ xs) j =
    let same : (x == j) ≡ true → p x ≡ p j = λ e. ap p (grind (arith, nat_tests, e)) in
    filter_if (p x) p x xs j refl same (has_filter p xs j)
  where
    filter_if : (b : Bool) (p : ℕ → Bool) (x : ℕ) (xs : List ℕ) (j : ℕ) → p x ≡ b → ((x == j) ≡ true → p x ≡ p j) → has (filter p xs) j ≡ (p j && has xs j) → has (filter p (x ∷ xs)) j ≡ (p j && has (x ∷ xs) j)
    filter_if true p x xs j e same h = rw e (grind (arith, h, same, e))
    filter_if false p x xs j e same h = rw e (grind (arith, h, same, e))

-- what the cursor gains, what is no longer due again, and a further reading leave it so
pub still_past : (m : ℕ) (d e : Dispatch) (had cursor : List ℕ) → ((i : ℕ) → has had i ≡ true → has cursor i ≡ true) → ((i : ℕ) → has e.due i ≡ true → has d.due i ≡ true) → d.read_index ≤ e.read_index → PastBelow m d had → PastBelow m e cursor
still_past m d e had cursor grows fewer on h j lt =
    grind (arith, nat_tests, grows j, fewer j, on, h j lt)

pub filter_fewer : (p : ℕ → Bool) (xs : List ℕ) (i : ℕ) → has (filter p xs) i ≡ true → has xs i ≡ true
filter_fewer p xs i h = grind (arith, has_filter p xs i, h)

-- the least due index, from one on
pub record IsLeastFrom (s : Subscription) (from i : ℕ) : Type 0 where
  pub reached : from ≤ i
  pub due : is_due s i ≡ true
  pub lower : (j : ℕ) → from ≤ j → j < i → is_due s j ≡ false

least_from : (s : Subscription) (from more i : ℕ) → least_due_from s from more ≡ Some i → IsLeastFrom s from i
least_from s from zero i h = absurd (cc)
least_from s from (suc more) i h = least_if (is_due s from) s from i (least_due_from s (from + 1) more) refl (least_from s (from + 1) more i) h
  where
    least_if : (b : Bool) (s : Subscription) (from i : ℕ) (rest : Option ℕ) → is_due s from ≡ b → (rest ≡ Some i → IsLeastFrom s (from + 1) i) → (if b then Some from else rest) ≡ Some i → IsLeastFrom s from i
    least_if true s from i rest e next h =
        let same : from ≡ i = cc in
        record { reached = omega (arith, same); due = rw same at e; lower = λ j a b. absurd (omega (arith, same)) }
    least_if false s from i rest e next h =
        let r = next h in
        record {
          reached = omega (arith, r.reached);
          due = r.due;
          lower = λ j a b. elim (cases_lt from j) [
            | inl lt ↦ r.lower j (omega arith) b
            | inr le ↦ let same : from ≡ j = omega arith in rw same at e
          ];
        }

pub least_is : (s : Subscription) (n i : ℕ) → least_due s n ≡ Some i → IsLeastFrom s 0 i
least_is s n i h = least_from s 0 n i h

-- the index that is due first is not below those that are never due again
pub due_reached : (m i : ℕ) (d : Dispatch) (cursor : List ℕ) → PastBelow m d cursor → is_due (sub_with cursor d) i ≡ true → m ≤ i
due_reached m i d cursor h e = elim (cases_lt i m) [
  | inl lt ↦ absurd (grind (arith, h i lt, e))
  | inr le ↦ le
]

-- an index that was offered, and all below it, are never due again
pub past_offered : (i : ℕ) (d e : Dispatch) (cursor : List ℕ) → IsLeastFrom (sub_with cursor d) 0 i → e.due ≡ filter (λ j. not (j == i)) d.due → e.read_index ≡ max d.read_index (i + 1) → PastBelow (i + 1) e cursor
past_offered i d e cursor least due read j lt =
    let gone = has_filter (λ k. not (k == i)) d.due j in
    let lower = least.lower j (omega arith) in
    let read_past : nat_le (max d.read_index (i + 1)) j ≡ false = past (max d.read_index (i + 1)) j (omega arith) in
    rw (due, read) (grind (arith, nat_tests, gone, lower, read_past, lt))
  where
    past : (a b : ℕ) → b < a → nat_le a b ≡ false
    past a b h = grind (arith, nat_tests)
