-- What one range in range_index of some makes of the ranges.
use Rattle.std.proofs.Common.{◌≡◌, ℕ, suc, ◌+◌, ◌-◌, ◌<◌, ◌≤◌, ◌^◌, true, false, List, ◌∷◌, inl, inr, ◌++◌, length, get_or, take, drop, refl, sym, ◌∙◌, arith}
use Rattle.std.specs.Prelude.{◌||◌}
use Rattle.std.specs.List.{AllWithin}
use Rattle.std.proofs.lemmas.Bool.{cases_lt, cases_order, true≢false}
use Rattle.std.proofs.lemmas.Bool.Decides.{nat_tests}
use Rattle.std.proofs.lemmas.List.{get_or-append-add, get_or-drop, get_or-take, get_or_append_left, get_or_at, length-append, length-drop, length-take-le}
use Rattle.cursor_acks.specs.declared.range.IndexRange.{IndexRange}
use Rattle.cursor_acks.specs.Ranges.{covers, lies_in}
use Rattle.cursor_acks.specs.RangeIndexes.{AreKept}
use Rattle.cursor_acks.proofs.Covered.{covers_at, uncovered}

-- a range fits in range_index of those from one range_index to before another
pub record Fits (rs : List IndexRange) (from to : ℕ) (r : IndexRange) : Type 0 where
  pub order : from ≤ to
  pub within : to ≤ length rs
  pub own : r.first ≤ r.last
  pub bounded : r.last + 1 < 2 ^ 64
  pub low : AllWithin (λ (s : IndexRange). s.last + 1 < r.first) rs 0 from
  pub joined : AllWithin (λ (s : IndexRange). (r.first ≤ s.first) × (s.last ≤ r.last)) rs from to
  pub high : AllWithin (λ (s : IndexRange). r.last + 1 < s.first) rs to (length rs)

abbrev pub edited : List IndexRange → ℕ → ℕ → IndexRange → List IndexRange
edited rs from to r = take from rs ++ r ∷ drop to rs

-- what stands where afterwards
at_low : (rs : List IndexRange) (from to : ℕ) (r d : IndexRange) (k : ℕ) → k < from → from ≤ length rs → get_or (edited rs from to r) k d ≡ get_or rs k d
at_low rs from to r d k lt le =
    get_or_append_left (take from rs) (r ∷ drop to rs) d k (omega (arith, length-take-le from rs le)) ∙ get_or-take from rs k d lt

at_own : (rs : List IndexRange) (from to : ℕ) (r d : IndexRange) (k : ℕ) → k ≡ from → from ≤ length rs → get_or (edited rs from to r) k d ≡ r
at_own rs from to r d k e le = get_or_at (take from rs) r (drop to rs) d k (length-take-le from rs le ∙ sym e)

at_high : (rs : List IndexRange) (from to : ℕ) (r d : IndexRange) (k n : ℕ) → k ≡ from + suc n → from ≤ length rs → get_or (edited rs from to r) k d ≡ get_or rs (to + n) d
at_high rs from to r d k n e le =
    let same : k ≡ length (take from rs) + suc n = omega (arith, length-take-le from rs le) in
    rw same (get_or-append-add (take from rs) (r ∷ drop to rs) (suc n) d) ∙ get_or-drop to rs n d

edited_length : (rs : List IndexRange) (from to : ℕ) (r : IndexRange) → from ≤ to → to ≤ length rs → length (edited rs from to r) + to ≡ from + 1 + length rs
edited_length rs from to r le n =
    omega (arith, length-append (take from rs) (r ∷ drop to rs), length-take-le from rs (omega arith), length-drop to rs)

past : (k from to : ℕ) → from < k → k ≡ from + suc (k - from - 1)
past k from to lt = omega arith

-- what is true of each range that was and of the new one is true of each
edited_all : (P : IndexRange → Type 0) (rs : List IndexRange) (from to : ℕ) (r : IndexRange) → from ≤ to → to ≤ length rs → ((k : ℕ) (d : IndexRange) → k < length rs → P (get_or rs k d)) → P r → (k : ℕ) (d : IndexRange) → k < length (edited rs from to r) → P (get_or (edited rs from to r) k d)
edited_all P rs from to r le n h own k d lt =
    let len = edited_length rs from to r le n in
    elim (cases_order k from) [
      | inl same ↦ rw (at_own rs from to r d k same (omega arith)) own
      | inr (inl low) ↦ rw (at_low rs from to r d k low (omega arith)) (h k d (omega arith))
      | inr (inr high) ↦ rw (at_high rs from to r d k (k - from - 1) (past k from to high) (omega arith)) (h (to + (k - from - 1)) d (omega (arith, len)))
    ]

edited_gaps : (rs : List IndexRange) (from to : ℕ) (r : IndexRange) → AreKept rs → Fits rs from to r → (j k : ℕ) (d : IndexRange) → j < k → k < length (edited rs from to r) → (get_or (edited rs from to r) j d).last + 1 < (get_or (edited rs from to r) k d).first
edited_gaps rs from to r h f j k d jk lt =
    let le : from ≤ length rs = omega (arith, f.order, f.within) in
    let len = edited_length rs from to r f.order f.within in
    let far : from < k → to + (k - from - 1) < length rs = λ high. omega (arith, len) in
    elim (cases_order k from) [
      | inl same ↦ rw (at_own rs from to r d k same le, at_low rs from to r d j (omega arith) le) (f.low j d (omega arith) (omega arith))
      | inr (inl low) ↦ rw (at_low rs from to r d k low le, at_low rs from to r d j (omega arith) le) (h.apart.gaps j k d jk (omega arith))
      | inr (inr high) ↦ rw (at_high rs from to r d k (k - from - 1) (past k from to high) le) (elim (cases_order j from) [
        | inl same ↦ rw (at_own rs from to r d j same le) (f.high (to + (k - from - 1)) d (omega arith) (far high))
        | inr (inl low) ↦ rw (at_low rs from to r d j low le) (h.apart.gaps j (to + (k - from - 1)) d (omega (arith, f.order)) (far high))
        | inr (inr above) ↦ rw (at_high rs from to r d j (j - from - 1) (past j from to above) le) (h.apart.gaps (to + (j - from - 1)) (to + (k - from - 1)) d (omega arith) (far high))
      ])
    ]

pub edited_kept : (rs : List IndexRange) (from to : ℕ) (r : IndexRange) → AreKept rs → Fits rs from to r → AreKept (edited rs from to r)
edited_kept rs from to r h f = record {
  apart = record {
    each = edited_all (λ s. s.first ≤ s.last) rs from to r f.order f.within h.apart.each f.own;
    gaps = edited_gaps rs from to r h f;
  };
  bounded = edited_all (λ s. s.last + 1 < 2 ^ 64) rs from to r f.order f.within h.bounded f.bounded;
}

own_covered : (rs : List IndexRange) (from to : ℕ) (r : IndexRange) (j : ℕ) → Fits rs from to r → lies_in r j ≡ true → covers (edited rs from to r) j ≡ true
own_covered rs from to r j f e =
    let le : from ≤ length rs = omega (arith, f.order, f.within) in
    let same = at_own rs from to r r from refl le in
    let low : r.first ≤ j = grind (arith, nat_tests, e) in
    let high : j ≤ r.last = grind (arith, nat_tests, e) in
    covers_at (edited rs from to r) from r j (omega (arith, edited_length rs from to r f.order f.within, f.within)) (rw same low) (rw same high)

old_covered : (rs : List IndexRange) (from to : ℕ) (r : IndexRange) (j : ℕ) → Fits rs from to r → covers (edited rs from to r) j ≡ false → covers rs j ≡ false
old_covered rs from to r j f out =
    let le : from ≤ length rs = omega (arith, f.order, f.within) in
    let len = edited_length rs from to r f.order f.within in
    let yes : (k : ℕ) (d : IndexRange) → k < length (edited rs from to r) → (get_or (edited rs from to r) k d).first ≤ j → j ≤ (get_or (edited rs from to r) k d).last → ⊥ =
    λ k d n a b. true≢false (sym (covers_at (edited rs from to r) k d j n a b) ∙ out) in
    let joined : lies_in r j ≡ true → ⊥ = λ e. true≢false (sym (own_covered rs from to r j f e) ∙ out) in
    uncovered rs j (λ k d n a b. elim (cases_lt k from) [
      | inl low ↦ yes k d (omega (arith, len, f.order, f.within)) (rw (at_low rs from to r d k low le) a) (rw (at_low rs from to r d k low le) b)
      | inr high ↦ elim (cases_lt k to) [
        | inl mid ↦ let in' = f.joined k d high mid in joined (grind (arith, nat_tests, in'.0, in'.1, a, b))
        | inr past' ↦
            let same = at_high rs from to r d (from + suc (k - to)) (k - to) refl le in
            let there : to + (k - to) ≡ k = omega arith in
            yes (from + suc (k - to)) d (omega (arith, len, f.order, f.within)) (rw (same, there) a) (rw (same, there) b)
      ]
    ])

none_covered : (rs : List IndexRange) (from to : ℕ) (r : IndexRange) (j : ℕ) → Fits rs from to r → lies_in r j ≡ false → covers rs j ≡ false → covers (edited rs from to r) j ≡ false
none_covered rs from to r j f other out =
    let le : from ≤ length rs = omega (arith, f.order, f.within) in
    let len = edited_length rs from to r f.order f.within in
    let yes : (k : ℕ) (d : IndexRange) → k < length rs → (get_or rs k d).first ≤ j → j ≤ (get_or rs k d).last → ⊥ =
    λ k d n a b. true≢false (sym (covers_at rs k d j n a b) ∙ out) in
    uncovered (edited rs from to r) j (λ k d n a b. elim (cases_order k from) [
      | inl same ↦
          let low : r.first ≤ j = rw (at_own rs from to r d k same le) at a in
          let high : j ≤ r.last = rw (at_own rs from to r d k same le) at b in
          true≢false (grind (arith, nat_tests, other, low, high))
      | inr (inl low) ↦ yes k d (omega (arith, le)) (rw (at_low rs from to r d k low le) at a) (rw (at_low rs from to r d k low le) at b)
      | inr (inr high) ↦
          let same = at_high rs from to r d k (k - from - 1) (past k from to high) le in
          yes (to + (k - from - 1)) d (omega (arith, len)) (rw same at a) (rw same at b)
    ])

pub covers_edited : (rs : List IndexRange) (from to : ℕ) (r : IndexRange) (j : ℕ) → Fits rs from to r → covers (edited rs from to r) j ≡ (lies_in r j || covers rs j)
covers_edited rs from to r j f =
    grind (arith, own_covered rs from to r j f, old_covered rs from to r j f, none_covered rs from to r j f)
