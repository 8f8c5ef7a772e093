-- The positions that an audit sees are those of the machine: what stands at one is the same, and one more entry adds the next one.
use Rattle.std.proofs.Common.{◌≡◌, ℕ, zero, suc, ◌+◌, ◌<◌, ◌≤◌, Bool, true, false, List, [], ◌∷◌, ◌++◌, length, refl, sym, ap, subst, ◌∙◌, ◌==◌, arith}
use Rattle.std.specs.Prelude.{Option, Some, None, if◌then◌else◌}
use Rattle.std.proofs.lemmas.Bool.{eq-eqb, eqb-true, false≢true}
use Rattle.std.proofs.lemmas.Bool.Decides.{nat_tests}
use Rattle.std.proofs.lemmas.Option.{none-some, same_Some}
use Rattle.world_laws.proofs.Types.{Entry, Position}
use Rattle.geo_base.specs.Broker.{Broker}
use Rattle.geo_base.specs.Position.{same_position}
use Rattle.geo_base.specs.Topic.{index_of, grown, next_position, position_at}
use Rattle.world_laws.proofs.Snapshotting.Answering.{Numbered}
use Rattle.world_laws.proofs.TopicOrder.Ledgers.{at_index, of_index, position_is, still_grown, total}
use Rattle.world_laws.proofs.TopicOrder.NextPosition.{next_stands}
use Rattle.world_laws.proofs.Walks.Walk.{both, by_test}
use Rattle.geo_base.specs.Mirror.{index_at, index_from}
use Rattle.trace_laws.specs.Seen.{positions_in, seen}
use Rattle.trace_laws.proofs.Same.{positions_are}

pub position_itself : (p q : Position) → p ≡ q → same_position p q ≡ true
position_itself p q e =
    subst (λ (r : Position). same_position p r ≡ true) e (both (p.ledger == p.ledger) (p.entry == p.entry) (eq-eqb p.ledger p.ledger refl) (eq-eqb p.entry p.entry refl))

-- a position of the list is that of its index alone
only_index : (ls : List ℕ) (p : Position) (k : ℕ) → k < total ls → same_position (position_at ls k) p ≡ true → index_of ls p ≡ Some k
only_index ls p k lt same = subst (λ (q : Position). index_of ls q ≡ Some k) (positions_are (position_at ls k) p same) (at_index ls k lt)

found_from : (ls : List ℕ) (p : Position) (i k n : ℕ) → index_of ls p ≡ Some i → k ≤ i → i < k + n → k + n ≤ total ls → index_from k (positions_in ls k n) p ≡ Some i
found_from ls p i k zero at le lt within = absurd (omega (arith, le, lt))
found_from ls p i k (suc n) at le lt within =
    by_test (same_position (position_at ls k) p)
    (λ here.
    let same : k ≡ i = same_Some k i (sym (only_index ls p k (omega (arith, within)) here) ∙ at) in
    ap (λ (b : Bool). if b then Some k else index_from (k + 1) (positions_in ls (k + 1) n) p) here ∙ ap (λ (j : ℕ). Some j) same)
    (λ there.
    let after : k + 1 ≤ i = past (omega (arith, le)) there in
    ap (λ (b : Bool). if b then Some k else index_from (k + 1) (positions_in ls (k + 1) n) p) there
    ∙ found_from ls p i (k + 1) n at after (omega (arith, lt)) (omega (arith, within)))
  where
    past : k < i + 1 → same_position (position_at ls k) p ≡ false → k + 1 ≤ i
    past lt' there =
        by_test (k == i)
        (λ e.
        let here = subst (λ (j : ℕ). same_position (position_at ls j) p ≡ true) (sym (eqb-true k i e)) (position_itself (position_at ls i) p (position_is ls p i at)) in
        absurd (false≢true (sym there ∙ here)))
        (λ other. grind (arith, nat_tests, other, lt'))

none_from : (ls : List ℕ) (p : Position) (k n : ℕ) → index_of ls p ≡ None → k + n ≤ total ls → index_from k (positions_in ls k n) p ≡ None
none_from ls p k zero at within = refl
none_from ls p k (suc n) at within =
    by_test (same_position (position_at ls k) p)
    (λ here. absurd (none-some k (sym at ∙ only_index ls p k (omega (arith, within)) here)))
    (λ there. ap (λ (b : Bool). if b then Some k else index_from (k + 1) (positions_in ls (k + 1) n) p) there ∙ none_from ls p (k + 1) n at (omega (arith, within)))

pub index_seen : (b : Broker) (p : Position) → Numbered b.entries b.ledgers → index_at (seen b) p ≡ index_of b.ledgers p
index_seen b p numbered = by (index_of b.ledgers p) refl
  where
    whole : 0 + length b.entries ≤ total b.ledgers
    whole = let w = numbered.whole in omega (arith, w)

    by : (o : Option ℕ) → index_of b.ledgers p ≡ o → index_at (seen b) p ≡ o
    by None at = none_from b.ledgers p 0 (length b.entries) at whole
    by (Some i) at =
        let lt = (of_index b.ledgers p i at).within in let w = numbered.whole in
        found_from b.ledgers p i 0 (length b.entries) at (omega arith) (omega (arith, lt, w)) whole

-- one more entry
position_stays : (per : ℕ) (ls : List ℕ) (i : ℕ) → 0 < length ls → i < total ls → position_at (grown per ls) i ≡ position_at ls i
position_stays per ls i some lt = position_is (grown per ls) (position_at ls i) i (still_grown per ls (position_at ls i) i some (at_index ls i lt))

next_is : (per : ℕ) (ls : List ℕ) → 0 < length ls → position_at (grown per ls) (total ls) ≡ next_position per ls
next_is per ls some = position_is (grown per ls) (next_position per ls) (total ls) (next_stands per ls some)

positions_grow : (per : ℕ) (ls : List ℕ) (k n : ℕ) → 0 < length ls → k + n ≡ total ls
    → positions_in (grown per ls) k (n + 1) ≡ positions_in ls k n ++ next_position per ls ∷ []
positions_grow per ls k zero some whole =
    let here : k ≡ total ls = omega (arith, whole) in
    ap (λ (j : ℕ). position_at (grown per ls) j ∷ []) here ∙ ap (λ (p : Position). p ∷ []) (next_is per ls some)
positions_grow per ls k (suc n) some whole =
    let lt : k < total ls = omega (arith, whole) in
    let rest : positions_in (grown per ls) (k + 1) (n + 1) ≡ positions_in ls (k + 1) n ++ next_position per ls ∷ [] =
    positions_grow per ls (k + 1) n some (omega (arith, whole)) in
    let one : suc n + 1 ≡ suc (n + 1) = omega arith in
    ap (λ (j : ℕ). positions_in (grown per ls) k j) one
    ∙ (ap (λ (p : Position). p ∷ positions_in (grown per ls) (k + 1) (n + 1)) (position_stays per ls k some lt) ∙ ap (λ (ps : List Position). position_at ls k ∷ ps) rest)

pushed_length : (es : List Entry) (e : Entry) → length (es ++ e ∷ []) ≡ length es + 1
pushed_length [] e = refl
pushed_length (a ∷ es) e = let h = pushed_length es e in omega (arith, h)

pub positions_more : (per : ℕ) (es : List Entry) (e : Entry) (ls : List ℕ) → Numbered es ls
    → positions_in (grown per ls) 0 (length (es ++ e ∷ [])) ≡ positions_in ls 0 (length es) ++ next_position per ls ∷ []
positions_more per es e ls numbered =
    ap (λ (n : ℕ). positions_in (grown per ls) 0 n) (pushed_length es e)
    ∙ positions_grow per ls 0 (length es) numbered.some (let w = numbered.whole in omega (arith, w))
