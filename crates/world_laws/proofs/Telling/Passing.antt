-- What a mark-delete passes, what a snapshot's cut names as a marker, and what an update of another cluster passes over: on values.
use Rattle.std.proofs.Common.{◌≡◌, ℕ, zero, suc, ◌+◌, ◌<◌, ◌≤◌, Bool, true, false, List, [], ◌∷◌, refl, sym, ap, subst, ◌∙◌, ◌==◌, arith}
use Rattle.std.specs.Prelude.{Option, Some, None, slice_get, slice_index_or, nat_lt, ◌||◌, if◌then◌else◌}
use Rattle.std.proofs.lemmas.Bool.{eq-eqb, eqb-true, false≢true}
use Rattle.std.proofs.lemmas.Bool.Decides.{nat_tests}
use Rattle.std.proofs.lemmas.Option.{none-some, same_Some}
use Rattle.world_laws.proofs.Types.{CachedSnapshot, Cut, Entry, Position}
use Rattle.geo_base.specs.SnapshotBuilder.{named_from}
use Rattle.geo_base.specs.Cache.{any_passed, last_passed}
use Rattle.geo_base.specs.Cursor.{has, mark_from}
use Rattle.geo_base.specs.Updating.{only_index, updated_indexes, is_updated, positions_for}
use Rattle.geo_base.specs.Topic.{index_of}
use Rattle.world_laws.proofs.OnceInOrder.Members.{Stands}
use Rattle.world_laws.proofs.Walks.Walk.{by_test}

mark_step : (x : ℕ) (xs : List ℕ) (m i : ℕ) → m ≤ i → (m + 1 ≤ i → i < mark_from xs (m + 1) → has xs i ≡ true)
    → (t : Bool) → (x == m) ≡ t → i < (if t then mark_from xs (m + 1) else m) → has (x ∷ xs) i ≡ true
mark_step x xs m i le ih true e lt =
    let more : (x == i) ≡ false → m + 1 ≤ i = λ h. grind (arith, nat_tests, eqb-true x m e, h, le) in
    by_test (x == i) (λ h. subst (λ (b : Bool). (b || has xs i) ≡ true) (sym h) refl)
    (λ h. subst (λ (b : Bool). (b || has xs i) ≡ true) (sym h) (ih (more h) lt))
mark_step x xs m i le ih false e lt = absurd (omega (arith, le, lt))

-- all below the mark-delete is acknowledged
pub below_mark : (set : List ℕ) (m i : ℕ) → m ≤ i → i < mark_from set m → has set i ≡ true
below_mark [] m i le lt = absurd (omega (arith, le, lt))
below_mark (x ∷ xs) m i le lt = mark_step x xs m i le (below_mark xs (m + 1) i) (x == m) refl lt

-- the last snapshot that a mark-delete passes is one of the cache, below it
pub record IsPassed (mark : ℕ) (cs : List CachedSnapshot) (cut : Cut) : Type 0 where
  pub snapshot : CachedSnapshot
  pub stands : Stands cs snapshot
  pub below : snapshot.index < mark
  pub is : snapshot.cut ≡ cut

pub last_passed_is : (mark : ℕ) (cs : List CachedSnapshot) (cut : Cut) → last_passed mark cs ≡ Some cut → IsPassed mark cs cut
last_passed_is mark [] cut h = absurd (none-some cut h)
last_passed_is mark (c ∷ cs) cut h =
    by_test (any_passed mark cs)
    (λ later.
    let p = last_passed_is mark cs cut (subst (λ (b : Bool). (if b then last_passed mark cs else (if nat_lt c.index mark then Some c.cut else None)) ≡ Some cut) later h) in
    record { snapshot = p.snapshot; stands = record { place = suc p.stands.place; is = p.stands.is }; below = p.below; is = p.is })
    (λ none.
    let h' = subst (λ (b : Bool). (if b then last_passed mark cs else (if nat_lt c.index mark then Some c.cut else None)) ≡ Some cut) none h in
    by_test (nat_lt c.index mark)
    (λ lt. record {
      snapshot = c;
      stands = record { place = zero; is = refl };
      below = grind (arith, nat_tests, lt);
      is = same_Some _ _ (subst (λ (b : Bool). (if b then Some c.cut else None) ≡ Some cut) lt h');
    })
    (λ no. absurd (none-some cut (subst (λ (b : Bool). (if b then Some c.cut else None) ≡ Some cut) no h'))))

-- a cut's marker names each of its positions once: for cluster y none of those of later clusters
none_for : (y c : ℕ) (ps : List (Option Position)) → y < c → positions_for y (named_from c ps) ≡ []
none_for y c [] lt = refl
none_for y c (None ∷ ps) lt = none_for y (c + 1) ps (omega (arith, lt))
none_for y c (Some p ∷ ps) lt =
    let other : (y == c) ≡ false = grind (arith, nat_tests, lt) in
    subst (λ (b : Bool). (if b then p ∷ positions_for y (named_from (c + 1) ps) else positions_for y (named_from (c + 1) ps)) ≡ []) (sym other) (none_for y (c + 1) ps (omega (arith, lt)))

named_for : (y c : ℕ) (ps : List (Option Position)) (p : Position) → slice_index_or ps y None ≡ Some p → positions_for (c + y) (named_from c ps) ≡ p ∷ []
named_for y c [] p h = absurd (none-some p h)
named_for zero c (None ∷ ps) p h = absurd (none-some p h)
named_for zero c (Some q ∷ ps) p h =
    let here : (c + zero == c) ≡ true = eq-eqb (c + zero) c (omega arith) in
    let rest = none_for (c + zero) (c + 1) ps (omega arith) in
    subst (λ (b : Bool). (if b then q ∷ positions_for (c + zero) (named_from (c + 1) ps) else positions_for (c + zero) (named_from (c + 1) ps)) ≡ p ∷ []) (sym here)
    (ap (λ l. q ∷ l) rest ∙ ap (λ r. r ∷ []) (same_Some _ _ h))
named_for (suc y) c (None ∷ ps) p h =
    let same : (c + 1) + y ≡ c + suc y = omega arith in
    subst (λ z. positions_for z (named_from (c + 1) ps) ≡ p ∷ []) same (named_for y (c + 1) ps p h)
named_for (suc y) c (Some q ∷ ps) p h =
    let same : (c + 1) + y ≡ c + suc y = omega arith in
    let other : (c + suc y == c) ≡ false = grind (arith, nat_tests) in
    subst (λ (b : Bool). (if b then q ∷ positions_for (c + suc y) (named_from (c + 1) ps) else positions_for (c + suc y) (named_from (c + 1) ps)) ≡ p ∷ []) (sym other)
    (subst (λ z. positions_for z (named_from (c + 1) ps) ≡ p ∷ []) same (named_for y (c + 1) ps p h))

pub names_one : (y : ℕ) (ps : List (Option Position)) (p : Position) → slice_index_or ps y None ≡ Some p → positions_for y (named_from 0 ps) ≡ p ∷ []
names_one y ps p h = let same : 0 + y ≡ y = omega arith in subst (λ (z : ℕ). positions_for z (named_from 0 ps) ≡ p ∷ []) same (named_for y 0 ps p h)

-- what an update passes over: a marker, or what its cluster could have had, among the first n entries
pub record IsPassedOver (y k n : ℕ) (es : List Entry) (i : ℕ) : Type 0 where
  pub place : ℕ
  pub entry : Entry
  pub is : i ≡ k + place
  pub small : place < n
  pub at : slice_get es place ≡ Some entry
  pub passed : is_updated y entry ≡ true

pub passed_over_is : (y k n : ℕ) (es : List Entry) (i : ℕ) → has (updated_indexes y k n es) i ≡ true → IsPassedOver y k n es i
passed_over_is y k zero es i h = absurd (false≢true h)
passed_over_is y k (suc n) [] i h = absurd (false≢true h)
passed_over_is y k (suc n) (e ∷ es) i h =
    let next : has (updated_indexes y (k + 1) n es) i ≡ true → IsPassedOver y k (suc n) (e ∷ es) i =
    λ g. let p = passed_over_is y (k + 1) n es i g in
    record { place = suc p.place; entry = p.entry; is = omega (arith, p.is); small = omega (arith, p.small); at = p.at; passed = p.passed } in
    by_test (is_updated y e)
    (λ t.
    let h' : ((k == i) || has (updated_indexes y (k + 1) n es) i) ≡ true =
    subst (λ (b : Bool). has (if b then k ∷ updated_indexes y (k + 1) n es else updated_indexes y (k + 1) n es) i ≡ true) t h in
    by_test (k == i)
    (λ here. record { place = zero; entry = e; is = omega (arith, eqb-true k i here); small = omega arith; at = refl; passed = t })
    (λ there. next (subst (λ (b : Bool). (b || has (updated_indexes y (k + 1) n es) i) ≡ true) there h')))
    (λ f. next (subst (λ (b : Bool). has (if b then k ∷ updated_indexes y (k + 1) n es else updated_indexes y (k + 1) n es) i ≡ true) f h))

-- the one index that an update names, where it names one position
pub one_index : (ls : List ℕ) (ps : List Position) (p : Position) (i j : ℕ) → ps ≡ p ∷ [] → index_of ls p ≡ Some i → only_index ls ps ≡ Some j → i ≡ j
one_index ls ps p i j is at only =
    let P : List Position → Type 0 = λ qs. only_index ls qs ≡ Some j in
    same_Some _ _ (sym at ∙ subst P is only)
