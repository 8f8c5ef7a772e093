-- The ranges of a set are its runs.
use Rattle.std.proofs.Common.{◌≡◌, ℕ, zero, suc, ◌+◌, ◌<◌, ◌≤◌, ◌==◌, true, false, List, [], ◌∷◌, ◌++◌, length, get_or, inl, inr, Result, Ok, Err, refl, sym, ap, ◌∙◌, arith}
use Rattle.std.specs.Prelude.{OnOk}
use Rattle.std.specs.List.{flat_map}
use Rattle.std.proofs.lemmas.Bool.{cases_lt, cases_order}
use Rattle.std.proofs.lemmas.Bool.Decides.{nat_tests}
use Rattle.geo_base.specs.Cursor.{has}
use Rattle.cursor_acks.specs.declared.range.IndexRange.{IndexRange}
use Rattle.cursor_acks.specs.Acks.{AreBelow}
use Rattle.cursor_acks.specs.Ranges.{AreApart, AreRangesOf, covers}
use Rattle.cursor_acks.proofs.Covered.{apart_tail, covers_at, uncovered}
use Rattle.state_items.specs.Runs.{runs, with_below}
use Rattle.state_items.specs.Texts.{cursor, number, range}

abbrev made : ℕ → ℕ → IndexRange
made a b = record { first = a; last = b }

-- ranges that hold what a set has of some indexes, and nothing else
record Holds (set : List ℕ) (from more : ℕ) (rs : List IndexRange) : Type 0 where
  pub apart : AreApart rs
  pub same : (i : ℕ) → from ≤ i → i < from + more → covers rs i ≡ has set i
  pub low : (k : ℕ) (d : IndexRange) → k < length rs → from ≤ (get_or rs k d).first
  pub high : (k : ℕ) (d : IndexRange) → k < length rs → (get_or rs k d).last < from + more

-- the first index is not held
skipped : (set : List ℕ) (from more : ℕ) (rs : List IndexRange) → Holds set from (suc more) rs → has set from ≡ false → Holds set (from + 1) more rs
skipped set from more rs h out = record {
  apart = h.apart;
  same = λ i a b. h.same i (omega arith) (omega arith);
  low = λ k d n.
      let le : from ≤ (get_or rs k d).first = h.low k d n in
      let own : (get_or rs k d).first ≤ (get_or rs k d).last = h.apart.each k d n in
      let not_here : from ≡ (get_or rs k d).first → ⊥ =
      λ e. grind (arith, covers_at rs k d from n (omega arith) (omega arith), h.same from (omega arith) (omega arith), out) in
      omega (arith, le, not_here);
  high = λ k d n. omega (arith, h.high k d n);
}

-- the first index is a range of its own
alone : (set : List ℕ) (from more : ℕ) (r : IndexRange) (rs : List IndexRange) → Holds set from (suc more) (r ∷ rs) → r.last ≡ from → Holds set (from + 1) more rs
alone set from more r rs h e = record {
  apart = apart_tail r rs h.apart;
  same = λ i a b. grind (arith, nat_tests, h.same i (omega arith) (omega arith), e, a);
  low = λ k d n. omega (arith, h.apart.gaps 0 (suc k) d (omega arith) (omega arith), e);
  high = λ k d n. omega (arith, h.high (suc k) d (omega arith));
}

shorter_apart : (r : IndexRange) (rs : List IndexRange) (from : ℕ) → AreApart (r ∷ rs) → from < r.last → AreApart (made (from + 1) r.last ∷ rs)
shorter_apart r rs from h lt = record {
  each = each;
  gaps = gaps;
}
  where
    each : (k : ℕ) (d : IndexRange) → k < length (made (from + 1) r.last ∷ rs) → (get_or (made (from + 1) r.last ∷ rs) k d).first ≤ (get_or (made (from + 1) r.last ∷ rs) k d).last
    each zero d n = omega (arith, lt)
    each (suc k) d n = h.each (suc k) d (omega (arith, n))

    gaps : (i j : ℕ) (d : IndexRange) → i < j → j < length (made (from + 1) r.last ∷ rs) → (get_or (made (from + 1) r.last ∷ rs) i d).last + 1 < (get_or (made (from + 1) r.last ∷ rs) j d).first
    gaps i zero d ij n = absurd (omega (arith, ij))
    gaps zero (suc j) d ij n = h.gaps 0 (suc j) d (omega arith) (omega (arith, n))
    gaps (suc i) (suc j) d ij n = h.gaps (suc i) (suc j) d (omega (arith, ij)) (omega (arith, n))

-- the first index begins a longer range
shorter : (set : List ℕ) (from more : ℕ) (r : IndexRange) (rs : List IndexRange) → Holds set from (suc more) (r ∷ rs) → r.first ≡ from → from < r.last → Holds set (from + 1) more (made (from + 1) r.last ∷ rs)
shorter set from more r rs h e lt = record {
  apart = shorter_apart r rs from h.apart lt;
  same = λ i a b. grind (arith, nat_tests, h.same i (omega arith) (omega arith), e, a);
  low = low;
  high = high;
}
  where
    low : (k : ℕ) (d : IndexRange) → k < length (made (from + 1) r.last ∷ rs) → from + 1 ≤ (get_or (made (from + 1) r.last ∷ rs) k d).first
    low zero d n = omega arith
    low (suc k) d n = omega (arith, h.apart.gaps 0 (suc k) d (omega arith) (omega (arith, n)), lt)

    high : (k : ℕ) (d : IndexRange) → k < length (made (from + 1) r.last ∷ rs) → (get_or (made (from + 1) r.last ∷ rs) k d).last < from + 1 + more
    high zero d n = omega (arith, h.high 0 d (omega arith))
    high (suc k) d n = omega (arith, h.high (suc k) d (omega (arith, n)))

same_range : (r s : IndexRange) → r.first ≡ s.first → r.last ≡ s.last → r ≡ s
same_range r s e f = ap (λ (a : ℕ). made a r.last) e ∙ ap (λ (b : ℕ). made s.first b) f

begins_alone : (from : ℕ) (r : IndexRange) (rs : List IndexRange) → AreApart (r ∷ rs) → r.first ≡ from → r.last ≡ from → with_below from rs ≡ r ∷ rs
begins_alone from r [] h e f = ap (λ (x : IndexRange). x ∷ []) (same_range (made from from) r (sym e) (sym f))
begins_alone from r (s ∷ ss) h e f =
    let far : (s.first == from + 1) ≡ false = grind (arith, nat_tests, h.gaps 0 1 r (omega arith) (omega arith), f) in
    rw far (ap (λ (x : IndexRange). x ∷ s ∷ ss) (same_range (made from from) r (sym e) (sym f)))

begins_longer : (from : ℕ) (r : IndexRange) (rs : List IndexRange) → r.first ≡ from → with_below from (made (from + 1) r.last ∷ rs) ≡ r ∷ rs
begins_longer from r rs e =
    let near : ((from + 1) == from + 1) ≡ true = grind (arith, nat_tests) in
    rw near (ap (λ (x : IndexRange). x ∷ rs) (same_range (made from r.last) r (sym e) refl))

held : (set : List ℕ) (from more : ℕ) (r : IndexRange) (rs : List IndexRange) → Holds set from (suc more) (r ∷ rs) → r.first ≡ from → has set from ≡ true
held set from more r rs h e =
    let own : r.first ≤ r.last = h.apart.each 0 r (omega arith) in
    grind (arith, nat_tests, own, e, h.same from (omega arith) (omega arith))

not_held : (set : List ℕ) (from more : ℕ) (rs : List IndexRange) → Holds set from (suc more) rs → ((k : ℕ) (d : IndexRange) → k < length rs → from < (get_or rs k d).first) → has set from ≡ false
not_held set from more rs h above =
    sym (h.same from (omega arith) (omega arith)) ∙ uncovered rs from (λ k d n a b. omega (arith, above k d n))

rise : (r : IndexRange) (rs : List IndexRange) (k : ℕ) (d : IndexRange) → AreApart (r ∷ rs) → k < length (r ∷ rs) → r.first ≤ (get_or (r ∷ rs) k d).first
rise r rs zero d h n = omega arith
rise r rs (suc k) d h n = omega (arith, h.gaps 0 (suc k) d (omega arith) n, h.each 0 d (omega arith))

runs_hold : (set : List ℕ) (from more : ℕ) (rs : List IndexRange) → Holds set from more rs → runs set from more ≡ rs
runs_hold set from zero [] h = refl
runs_hold set from zero (r ∷ rs) h = absurd (omega (arith, h.low 0 r (omega arith), h.high 0 r (omega arith), h.apart.each 0 r (omega arith)))
runs_hold set from (suc more) [] h =
    let out : has set from ≡ false = not_held set from more [] h (λ k d n. absurd (omega (arith, n))) in
    rw out (runs_hold set (from + 1) more [] (skipped set from more [] h out))
runs_hold set from (suc more) (r ∷ rs) h =
    elim (cases_order r.first from) [
      | inl same ↦
          let yes = held set from more r rs h same in
          elim (cases_lt from r.last) [
            | inl longer ↦ rw (yes, runs_hold set (from + 1) more (made (from + 1) r.last ∷ rs) (shorter set from more r rs h same longer)) (begins_longer from r rs same)
            | inr le ↦
                let own : r.first ≤ r.last = h.apart.each 0 r (omega arith) in
                let end : r.last ≡ from = omega (arith, le, own, same) in
                rw (yes, runs_hold set (from + 1) more rs (alone set from more r rs h end)) (begins_alone from r rs h.apart same end)
          ]
      | inr (inl low) ↦ absurd (omega (arith, low, h.low 0 r (omega arith)))
      | inr (inr high) ↦
          let out = not_held set from more (r ∷ rs) h (λ k d n. omega (arith, high, rise r rs k d h.apart n)) in
          rw out (runs_hold set (from + 1) more (r ∷ rs) (skipped set from more (r ∷ rs) h out))
    ]

pub runs_are : (n : ℕ) (set : List ℕ) (rs : List IndexRange) → AreRangesOf set rs → AreBelow n set → runs set 0 n ≡ rs
runs_are n set rs h below = runs_hold set 0 n rs (record {
  apart = h.apart;
  same = λ i a b. h.same i;
  low = λ k d lt. omega arith;
  high = λ k d lt.
      let own : (get_or rs k d).first ≤ (get_or rs k d).last = h.apart.each k d lt in
      let under : (get_or rs k d).last < n = below (get_or rs k d).last (sym (h.same (get_or rs k d).last) ∙ covers_at rs k d (get_or rs k d).last lt own (omega arith)) in
      omega (arith, under);
})

pub cursor_text : {T E : Type 0} (r : Result T E) (n : ℕ) (set old new : List ℕ) (rs : List IndexRange) → AreRangesOf set rs → AreBelow n set → OnOk r (new ≡ old ++ (number (length rs) ++ flat_map range rs)) → OnOk r (new ≡ old ++ cursor n set)
cursor_text (Ok x) n set old new rs h below e = e ∙ ap (λ (xs : List IndexRange). old ++ (number (length xs) ++ flat_map range xs)) (sym (runs_are n set rs h below))
cursor_text (Err x) n set old new rs h below e = tt
