-- A snapshot marker stands for the cut that it was written from.
use Rattle.std.proofs.Common.{◌≡◌, ℕ, ◌+◌, Bool, true, false, List, [], ◌∷◌, ◌++◌, length, refl, sym, ap, ◌∙◌, ◌==◌, arith, append_assoc}
use Rattle.std.specs.Prelude.{Option, Some, None, if◌then◌else◌, replicate, slice_index_or, slice_set}
use Rattle.std.proofs.lemmas.Bool.{eqb-true}
use Rattle.std.proofs.lemmas.Option.{none-some}
use Rattle.world_laws.proofs.Types.{Cut, Position}
use Rattle.geo_base.specs.SnapshotBuilder.{named, named_from}
use Rattle.geo_base.specs.Cache.{cut_of, with_places}

abbrev Places : Type 0
Places = List (Option Position)

place_set : (pre : Places) (o v : Option Position) (ps : Places) → slice_set (pre ++ o ∷ ps) (length pre) v ≡ pre ++ v ∷ ps
place_set [] o v ps = refl
place_set (a ∷ pre) o v ps = ap (λ (l : Places). a ∷ l) (place_set pre o v ps)

place_here : (pre : Places) (o : Option Position) (ps : Places) → slice_index_or (pre ++ o ∷ ps) (length pre) None ≡ o
place_here [] o ps = refl
place_here (a ∷ pre) o ps = place_here pre o ps

one_more : (pre : Places) (o : Option Position) → length (pre ++ o ∷ []) ≡ length pre + 1
one_more [] o = omega arith
one_more (a ∷ pre) o = let h = one_more pre o in omega (arith, h)

-- where the own place is empty no position is named for it
not_own : (own c : ℕ) (pre ps : Places) (p : Position) → c ≡ length pre → slice_index_or (pre ++ Some p ∷ ps) own None ≡ None → (c == own) ≡ false
not_own own c pre ps p at empty = by (c == own) refl
  where
    by : (t : Bool) → (c == own) ≡ t → t ≡ false
    by true e =
        let is : length pre ≡ own = sym at ∙ eqb-true c own e in
        absurd (none-some p (sym empty ∙ sym (ap (λ (i : ℕ). slice_index_or (pre ++ Some p ∷ ps) i None) is) ∙ place_here pre (Some p) ps))
    by false e = refl

all_places : (own c : ℕ) (pre ps : Places) → c ≡ length pre → slice_index_or (pre ++ ps) own None ≡ None
    → with_places own (pre ++ replicate (length ps) None) (named_from c ps) ≡ pre ++ ps
all_places own c pre [] at empty = refl
all_places own c pre (None ∷ ps) at empty =
    let whole : (pre ++ None ∷ []) ++ ps ≡ pre ++ None ∷ ps = append_assoc pre (None ∷ []) ps in
    let start : (pre ++ None ∷ []) ++ replicate (length ps) None ≡ pre ++ None ∷ replicate (length ps) None = append_assoc pre (None ∷ []) (replicate (length ps) None) in
    ap (λ (l : Places). with_places own l (named_from (c + 1) ps)) (sym start)
    ∙ all_places own (c + 1) (pre ++ None ∷ []) ps (ap (λ (n : ℕ). n + 1) at ∙ sym (one_more pre None)) (ap (λ (l : Places). slice_index_or l own None) whole ∙ empty) ∙ whole
all_places own c pre (Some p ∷ ps) at empty =
    let whole : (pre ++ Some p ∷ []) ++ ps ≡ pre ++ Some p ∷ ps = append_assoc pre (Some p ∷ []) ps in
    let start : (pre ++ Some p ∷ []) ++ replicate (length ps) None ≡ pre ++ Some p ∷ replicate (length ps) None = append_assoc pre (Some p ∷ []) (replicate (length ps) None) in
    let old : Places = pre ++ None ∷ replicate (length ps) None in
    let put : (if c == own then old else slice_set old c (Some p)) ≡ (pre ++ Some p ∷ []) ++ replicate (length ps) None =
    ap (λ (b : Bool). if b then old else slice_set old c (Some p)) (not_own own c pre ps p at empty)
    ∙ ap (λ (n : ℕ). slice_set old n (Some p)) at ∙ place_set pre None (Some p) (replicate (length ps) None) ∙ sym start in
    ap (λ (l : Places). with_places own l (named_from (c + 1) ps)) put
    ∙ all_places own (c + 1) (pre ++ Some p ∷ []) ps (ap (λ (n : ℕ). n + 1) at ∙ sym (one_more pre (Some p))) (ap (λ (l : Places). slice_index_or l own None) whole ∙ empty) ∙ whole

pub cut_written : (own n : ℕ) (cut : Cut) → length cut.remote ≡ n → slice_index_or cut.remote own None ≡ None → cut_of own n cut.local (named cut) ≡ cut
cut_written own n cut size empty =
    let places : with_places own (replicate n None) (named cut) ≡ cut.remote =
    ap (λ (k : ℕ). with_places own (replicate k None) (named cut)) (sym size) ∙ all_places own 0 [] cut.remote refl empty in
    λ i. record { local = cut.local; remote = places i }
