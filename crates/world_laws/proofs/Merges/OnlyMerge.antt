-- Two ordered lists with the same entries of each node are one list.
use Rattle.std.proofs.Common.{◌≡◌, ℕ, Bool, true, false, List, [], ◌∷◌, refl, sym, ap, subst, ◌∙◌, ◌==◌}
use Rattle.std.specs.Prelude.{if◌then◌else◌}
use Rattle.std.proofs.lemmas.Bool.{eqb-true, eq-eqb, false≢true}
use Rattle.geo_base.specs.History.{RecordedEvent}
use Rattle.geo_base.specs.Merge.{BeforeAll, IsMerge, IsOrdered, Merged, history_of, merge_of, of_node}
use Rattle.world_laws.proofs.Merges.MergeOrder.{Earlier, Rises, is_earlier, merge_is, not_both}
use Rattle.world_laws.proofs.Walks.Walk.{on_false, on_true}

abbrev the_first : List RecordedEvent → RecordedEvent → RecordedEvent
the_first [] d = d
the_first (e ∷ es) d = e

abbrev the_others : List RecordedEvent → List RecordedEvent
the_others [] = []
the_others (e ∷ es) = es

abbrev is_empty_list : List RecordedEvent → Bool
is_empty_list [] = true
is_empty_list (e ∷ es) = false

none_and_some : (d : RecordedEvent) (ds : List RecordedEvent) → [] ≡ d ∷ ds → ⊥
none_and_some d ds h = false≢true (sym (ap is_empty_list h))

own_first : (m : Merged) (ms : List Merged) → of_node m.node (m ∷ ms) ≡ m.recorded ∷ of_node m.node ms
own_first m ms = on_true (m.node == m.node) _ _ (eq-eqb m.node m.node refl)

-- an entry that a list has for a node stands in the list
found : (a : Merged) (n : ℕ) (d : RecordedEvent) (bs : List Merged) (rest : List RecordedEvent) → of_node n bs ≡ d ∷ rest → BeforeAll a bs → Earlier a (record { node = n; recorded = d })
found a n d [] rest h before = absurd (none_and_some d rest h)
found a n d (b ∷ bs) rest h before = by (b.node == n) refl h (λ later. found a n d bs rest later before.1)
  where
    by : (t : Bool) → (b.node == n) ≡ t → (if t then b.recorded ∷ of_node n bs else of_node n bs) ≡ d ∷ rest
        → (of_node n bs ≡ d ∷ rest → Earlier a (record { node = n; recorded = d })) → Earlier a (record { node = n; recorded = d })
    by true e h more =
        let same : b.recorded ≡ d = ap (λ (ds : List RecordedEvent). the_first ds d) h in
        subst (λ (i : ℕ). Earlier a (record { node = i; recorded = d })) (eqb-true b.node n e)
        (subst (λ (x : RecordedEvent). Earlier a (record { node = b.node; recorded = x })) same (is_earlier a b before.0))
    by false e h more = more h

-- what stands first in one of two such lists stands first in the other
same_first : (a b : Merged) (as' bs : List Merged) → ((z : ℕ) → of_node z (a ∷ as') ≡ of_node z (b ∷ bs)) → BeforeAll a as' → BeforeAll b bs → a ≡ b
same_first a b as' bs same before before' = by (a.node == b.node) refl
  where
    by : (t : Bool) → (a.node == b.node) ≡ t → a ≡ b
    by true e =
        let node : a.node ≡ b.node = eqb-true a.node b.node e in
        let P : ℕ → Type 0 = λ i. of_node i (b ∷ bs) ≡ b.recorded ∷ of_node i bs in
        let here : of_node a.node (b ∷ bs) ≡ b.recorded ∷ of_node a.node bs = subst P (sym node) (own_first b bs) in
        let h : a.recorded ∷ of_node a.node as' ≡ b.recorded ∷ of_node a.node bs = sym (own_first a as') ∙ (same a.node ∙ here) in
        let done : a.recorded ≡ b.recorded = ap (λ (ds : List RecordedEvent). the_first ds a.recorded) h in
        ap (λ (i : ℕ). record { node = i; recorded = a.recorded }) node ∙ ap (λ (d : RecordedEvent). record { node = b.node; recorded = d }) done
    by false e =
        let not_b : (b.node == a.node) ≡ false = swap e in
        let in_bs : of_node a.node bs ≡ a.recorded ∷ of_node a.node as' = sym (on_false (b.node == a.node) _ _ not_b) ∙ (sym (same a.node) ∙ own_first a as') in
        let in_as : of_node b.node as' ≡ b.recorded ∷ of_node b.node bs = sym (on_false (a.node == b.node) _ _ e) ∙ (same b.node ∙ own_first b bs) in
        absurd (not_both a b (found a b.node b.recorded as' (of_node b.node bs) in_as before) (found b a.node a.recorded bs (of_node a.node as') in_bs before'))
      where
        swap : (a.node == b.node) ≡ false → (b.node == a.node) ≡ false
        swap e = other (b.node == a.node) refl
          where
            other : (u : Bool) → (b.node == a.node) ≡ u → u ≡ false
            other true e' = absurd (false≢true (sym e ∙ eq-eqb a.node b.node (sym (eqb-true b.node a.node e'))))
            other false e' = refl

-- and what is left is so again
same_others : (a : Merged) (as' bs : List Merged) → ((z : ℕ) → of_node z (a ∷ as') ≡ of_node z (a ∷ bs)) → (z : ℕ) → of_node z as' ≡ of_node z bs
same_others a as' bs same z = by (a.node == z) (same z)
  where
    by : (t : Bool) → (if t then a.recorded ∷ of_node z as' else of_node z as') ≡ (if t then a.recorded ∷ of_node z bs else of_node z bs) → of_node z as' ≡ of_node z bs
    by true h = ap the_others h
    by false h = h

pub one_list : (as' bs : List Merged) → IsOrdered as' → IsOrdered bs → ((z : ℕ) → of_node z as' ≡ of_node z bs) → as' ≡ bs
one_list [] [] o o' same = refl
one_list [] (b ∷ bs) o o' same = absurd (none_and_some b.recorded (of_node b.node bs) (same b.node ∙ own_first b bs))
one_list (a ∷ as') [] o o' same = absurd (none_and_some a.recorded (of_node a.node as') (sym (same a.node) ∙ own_first a as'))
one_list (a ∷ as') (b ∷ bs) o o' same =
    let first : a ≡ b = same_first a b as' bs same o.0 o'.0 in
    let P : Merged → Type 0 = λ m. (z : ℕ) → of_node z (a ∷ as') ≡ of_node z (m ∷ bs) in
    let again : P a = subst P (sym first) same in
    ap (λ (ms : List Merged). a ∷ ms) (one_list as' bs o.1 o'.1 (same_others a as' bs again)) ∙ ap (λ (m : Merged). m ∷ bs) first

pub only_merge : (hs : List (List RecordedEvent)) (ms : List Merged) → ((i : ℕ) → Rises (history_of hs i)) → IsMerge hs ms → ms ≡ merge_of hs
only_merge hs ms r is = let own = merge_is hs r in one_list ms (merge_of hs) is.order own.order (λ z. is.each z ∙ sym (own.each z))
