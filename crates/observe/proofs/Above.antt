-- A position that is above the last of some that ascend is above all of them.
use Rattle.std.proofs.Common.{◌≡◌, ℕ, zero, suc, ◌+◌, ◌-◌, ◌<◌, ◌≤◌, Bool, true, false, List, [], ◌∷◌, ◌++◌, length, refl, sym, subst, ◌∙◌, arith, inl, inr, ◌⊎◌}
use Rattle.std.specs.Prelude.{◌&&◌, Some, if◌then◌else◌, slice_index_or}
use Rattle.std.proofs.lemmas.Option.{none-some}
use Rattle.geo_base.proofs.Results.{some_number}
use Rattle.std.proofs.lemmas.Bool.{and_parts}
use Rattle.std.proofs.lemmas.List.{length-append}
use Rattle.geo_base.specs.declared.position.Position.{Position}
use Rattle.geo_base.specs.Audit.{is_above}
use Rattle.geo_base.specs.Mirror.{index_from}
use Rattle.geo_base.specs.Position.{position_lt, same_position}
use Rattle.audit.specs.Stored.{Ascend}
use Rattle.audit.proofs.LastPlace.{above_last as last_above}
use Rattle.audit.proofs.Tables.{lt_trans}
use Rattle.geo_base.specs.declared.entry.Entry.{Entry}
use Rattle.observation.specs.Observed.{is_above_all}
use Rattle.observe.specs.Kept.{ArePlaced}

later : (q r : Position) (rs : List Position) → Ascend (q ∷ r ∷ rs) → Ascend (r ∷ rs)
later q r rs h i j d lt within = h (suc i) (suc j) d (omega (arith, lt)) (omega (arith, within))

-- above the last, then above each before it
pub above_all : (ps : List Position) (p : Position) → Ascend ps → is_above ps p ≡ is_above_all p ps
above_all [] p h = refl
above_all (q ∷ []) p h = by (position_lt q p)
  where
    by : (b : Bool) → b ≡ (b && true)
    by true = refl
    by false = refl
above_all (q ∷ r ∷ rs) p h = above_all (r ∷ rs) p (later q r rs h) ∙ with_first (position_lt q p) refl
  where
    first : position_lt q r ≡ true
    first = h 0 1 q (omega arith) (omega arith)

    only : (b c d : Bool) → ((c && d) ≡ true → b ≡ true) → (c && d) ≡ (b && (c && d))
    only true c d h = refl
    only false true true h = sym (h refl)
    only false true false h = refl
    only false false d h = refl

    with_first : (b : Bool) → position_lt q p ≡ b → is_above_all p (r ∷ rs) ≡ (position_lt q p && is_above_all p (r ∷ rs))
    with_first b is =
        only (position_lt q p) (position_lt r p) (is_above_all p rs) (λ both. lt_trans q r p first (and_parts (position_lt r p) (is_above_all p rs) both).0)

pub above_none : (ps : List Position) (p : Position) → length ps ≤ 0 → is_above_all p ps ≡ true
above_none [] p none = refl
above_none (q ∷ ps) p none = absurd (omega (arith, none))

pub above_last : (es : List Entry) (ps : List Position) (p d : Position) → ArePlaced es ps → 0 < length ps → is_above_all p ps ≡ position_lt (slice_index_or ps (length ps - 1) d) p
above_last es ps p d placed some = sym (above_all ps p placed.ascend) ∙ last_above ps p d some

pub placed_none : ArePlaced [] []
placed_none = record { ascend = λ i j d lt within. absurd (omega (arith, lt, within)); sized = refl }

-- one more position above all
above_each : (ps : List Position) (p d : Position) (i : ℕ) → is_above_all p ps ≡ true → i < length ps → position_lt (slice_index_or ps i d) p ≡ true
above_each [] p d i h lt = absurd (omega (arith, lt))
above_each (q ∷ ps) p d zero h lt = (and_parts (position_lt q p) (is_above_all p ps) h).0
above_each (q ∷ ps) p d (suc i) h lt = above_each ps p d i (and_parts (position_lt q p) (is_above_all p ps) h).1 (omega (arith, lt))

get_old : (ps : List Position) (p d : Position) (i : ℕ) → i < length ps → slice_index_or (ps ++ p ∷ []) i d ≡ slice_index_or ps i d
get_old [] p d i lt = absurd (omega (arith, lt))
get_old (q ∷ ps) p d zero lt = refl
get_old (q ∷ ps) p d (suc i) lt = get_old ps p d i (omega (arith, lt))

get_new : (ps : List Position) (p d : Position) (i : ℕ) → i ≡ length ps → slice_index_or (ps ++ p ∷ []) i d ≡ p
get_new [] p d zero is = refl
get_new [] p d (suc i) is = absurd (omega (arith, is))
get_new (q ∷ ps) p d zero is = absurd (omega (arith, is))
get_new (q ∷ ps) p d (suc i) is = get_new ps p d i (omega (arith, is))

below_or : (k n : ℕ) → (k < n) ⊎ (n ≤ k)
below_or k zero = inr (omega arith)
below_or zero (suc n) = inl (omega arith)
below_or (suc k) (suc n) = elim (below_or k n) [ inl h ↦ inl (omega (arith, h)) | inr h ↦ inr (omega (arith, h)) ]

ascend_more : (ps : List Position) (p : Position) → Ascend ps → is_above_all p ps ≡ true → Ascend (ps ++ p ∷ [])
ascend_more ps p h above i j d lt within = by (below_or j (length ps))
  where
    P : Position → Position → Type 0
    P a b = position_lt a b ≡ true

    by : (j < length ps) ⊎ (length ps ≤ j) → P (slice_index_or (ps ++ p ∷ []) i d) (slice_index_or (ps ++ p ∷ []) j d)
    by (inl old) =
        subst (λ (a : Position). P a (slice_index_or (ps ++ p ∷ []) j d)) (sym (get_old ps p d i (omega (arith, lt, old))))
        (subst (λ (b : Position). P (slice_index_or ps i d) b) (sym (get_old ps p d j old)) (h i j d lt old))
    by (inr new) =
        let size = length-append ps (p ∷ []) in
        let last : j ≡ length ps = omega (arith, new, within, size) in
        subst (λ (a : Position). P a (slice_index_or (ps ++ p ∷ []) j d)) (sym (get_old ps p d i (omega (arith, lt, last))))
        (subst (λ (b : Position). P (slice_index_or ps i d) b) (sym (get_new ps p d j last)) (above_each ps p d i above (omega (arith, lt, last))))

pub placed_more : (es : List Entry) (ps : List Position) (e : Entry) (p : Position) → ArePlaced es ps → is_above_all p ps ≡ true → ArePlaced (es ++ e ∷ []) (ps ++ p ∷ [])
placed_more es ps e p placed above = record {
  ascend = ascend_more ps p placed.ascend above;
  sized = let a = length-append ps (p ∷ []) in let b = length-append es (e ∷ []) in let c = placed.sized in omega (arith, a, b, c);
}

-- an index is one of an entry
index_from_within : (n : ℕ) (ps : List Position) (p : Position) (i : ℕ) → index_from n ps p ≡ Some i → i < n + length ps
index_from_within n [] p i h = absurd (none-some i h)
index_from_within n (q ∷ ps) p i h = by (same_position q p) h (λ g. index_from_within (n + 1) ps p i g)
  where
    by : (b : Bool) → (if b then Some n else index_from (n + 1) ps p) ≡ Some i → (index_from (n + 1) ps p ≡ Some i → i < (n + 1) + length ps) → i < n + length (q ∷ ps)
    by true is rest = let e = some_number n i is in omega (arith, e)
    by false is rest = let e = rest is in omega (arith, e)

pub index_within : (es : List Entry) (ps : List Position) (p : Position) (i : ℕ) → ArePlaced es ps → index_from 0 ps p ≡ Some i → i < length es
index_within es ps p i placed h = let a = index_from_within 0 ps p i h in let b = placed.sized in omega (arith, a, b)
