-- Entries that are walked over from an index on.
use Rattle.std.proofs.Common.{◌≡◌, ℕ, suc, ◌+◌, ◌-◌, ◌<◌, ◌≤◌, ◌==◌, Bool, true, false, List, [], ◌∷◌, ◌++◌, length, take, drop, append_assoc, refl, sym, ap, ◌∙◌, arith}
use Rattle.std.specs.Prelude.{◌&&◌, not, if◌then◌else◌, Some, None, slice_get}
use Rattle.std.proofs.Math.ListN.{drop_of_length-le}
use Rattle.std.proofs.lemmas.List.{append-nil}
use Rattle.std.proofs.lemmas.Option.{same_Some}
use Rattle.geo_base.specs.declared.entry.Entry.{Entry}
use Rattle.geo_base.specs.Audit.{same_entry}
use Rattle.geo_base.specs.Entry.{is_outbound}
use Rattle.geo_base.specs.Laws.{of_origin, outbound}
use Rattle.observation.specs.declared.finding.Finding.{Finding}
use Rattle.observation.specs.declared.finding.Finding.TheVariants as finding
use Rattle.observation.specs.Findings.{Brought, begins, brought_as, brought_from, brought_one, gaps, is_missing, source_of, unless}
use Rattle.observation.specs.Safe.{is_common}
use Rattle.observe.proofs.Each.{get_at}
use Rattle.observe.specs.Walks.{IsNextCommon, IsNextOf, common_from}

-- ---- the next of an origin

pub next_passes : (y : ℕ) (es : List Entry) (i : ℕ) (e : Entry) → slice_get es i ≡ Some e → (e.ident.origin == y) ≡ false → of_origin y (drop i es) ≡ of_origin y (drop (i + 1) es)
next_passes y es i e at other = ap (of_origin y) (get_at es i e at) ∙ ap (λ (b : Bool). if b then e ∷ of_origin y (drop (i + 1) es) else of_origin y (drop (i + 1) es)) other

pub next_some : (y : ℕ) (es : List Entry) (from i : ℕ) (e : Entry) → i < length es → slice_get es i ≡ Some e → (e.ident.origin == y) ≡ true → of_origin y (drop i es) ≡ of_origin y (drop from es) → IsNextOf y es from i
next_some y es from i e lt at own same = record {
  within = lt;
  is = λ f atf.
      let f_is : e ≡ f = same_Some e f (sym at ∙ atf) in
      sym same ∙ (ap (of_origin y) (get_at es i e at) ∙ (ap (λ (b : Bool). if b then e ∷ of_origin y (drop (i + 1) es) else of_origin y (drop (i + 1) es)) own ∙ ap (λ (g : Entry). g ∷ of_origin y (drop (i + 1) es)) f_is));
}

pub next_none : (y : ℕ) (es : List Entry) (from i : ℕ) → length es ≤ i → of_origin y (drop i es) ≡ of_origin y (drop from es) → of_origin y (drop from es) ≡ []
next_none y es from i le same = sym same ∙ ap (of_origin y) (drop_of_length-le es le)

-- ---- whether one is ahead

out_step : (y x : ℕ) (e : Entry) (fs : List Entry) (b : Bool) → is_outbound y x e ≡ b → outbound y x (e ∷ fs) ≡ (if b then e ∷ outbound y x fs else outbound y x fs)
out_step y x e fs b is = ap (λ (c : Bool). if c then e ∷ outbound y x fs else outbound y x fs) is

pub ahead_other : (y x : ℕ) (here : List Entry) (e : Entry) (fs : List Entry) (n : ℕ) → is_outbound y x e ≡ false
    → begins (outbound y x (e ∷ fs)) (of_origin y (drop n here)) ≡ begins (outbound y x fs) (of_origin y (drop n here))
ahead_other y x here e fs n fails = ap (λ (es : List Entry). begins es (of_origin y (drop n here))) (out_step y x e fs false fails)

pub ahead_none : (y x : ℕ) (here : List Entry) (e : Entry) (fs : List Entry) (n : ℕ) → is_outbound y x e ≡ true → of_origin y (drop n here) ≡ []
    → begins (outbound y x (e ∷ fs)) (of_origin y (drop n here)) ≡ false
ahead_none y x here e fs n goes none = ap (λ (es : List Entry). begins es (of_origin y (drop n here))) (out_step y x e fs true goes) ∙ ap (λ (gs : List Entry). begins (e ∷ outbound y x fs) gs) none

ahead_step : (y x : ℕ) (here : List Entry) (e f : Entry) (fs : List Entry) (n at : ℕ) → is_outbound y x e ≡ true → IsNextOf y here n at → slice_get here at ≡ Some f
    → begins (outbound y x (e ∷ fs)) (of_origin y (drop n here)) ≡ (same_entry e f && begins (outbound y x fs) (of_origin y (drop (at + 1) here)))
ahead_step y x here e f fs n at goes next is = ap (λ (es : List Entry). begins es (of_origin y (drop n here))) (out_step y x e fs true goes) ∙ ap (λ (gs : List Entry). begins (e ∷ outbound y x fs) gs) (next.is f is)

pub ahead_differs : (y x : ℕ) (here : List Entry) (e f : Entry) (fs : List Entry) (n at : ℕ) → is_outbound y x e ≡ true → IsNextOf y here n at → slice_get here at ≡ Some f → same_entry e f ≡ false
    → begins (outbound y x (e ∷ fs)) (of_origin y (drop n here)) ≡ false
ahead_differs y x here e f fs n at goes next is differ = ahead_step y x here e f fs n at goes next is ∙ ap (λ (b : Bool). b && begins (outbound y x fs) (of_origin y (drop (at + 1) here))) differ

pub ahead_same : (y x : ℕ) (here : List Entry) (e f : Entry) (fs : List Entry) (n at : ℕ) → is_outbound y x e ≡ true → IsNextOf y here n at → slice_get here at ≡ Some f → same_entry e f ≡ true
    → begins (outbound y x (e ∷ fs)) (of_origin y (drop n here)) ≡ begins (outbound y x fs) (of_origin y (drop (at + 1) here))
ahead_same y x here e f fs n at goes next is same = ahead_step y x here e f fs n at goes next is ∙ ap (λ (b : Bool). b && begins (outbound y x fs) (of_origin y (drop (at + 1) here))) same

-- how far it is known
pub record AheadTo (y x : ℕ) (here there : List Entry) (n i : ℕ) : Type 0 where
  pub rest : begins (outbound y x (drop i there)) (of_origin y (drop n here)) ≡ begins (outbound y x there) (of_origin y here)

pub ahead_begun : (y x : ℕ) (here there : List Entry) → AheadTo y x here there 0 0
ahead_begun y x here there = record { rest = refl }

pub ahead_on : (y x : ℕ) (here there : List Entry) (n m i : ℕ) (e : Entry) → AheadTo y x here there n i → slice_get there i ≡ Some e
    → begins (outbound y x (e ∷ drop (i + 1) there)) (of_origin y (drop n here)) ≡ begins (outbound y x (drop (i + 1) there)) (of_origin y (drop m here)) → AheadTo y x here there m (i + 1)
ahead_on y x here there n m i e h at is = record { rest = sym is ∙ (sym (ap (λ (es : List Entry). begins (outbound y x es) (of_origin y (drop n here))) (get_at there i e at)) ∙ h.rest) }

pub ahead_fails : (y x : ℕ) (here there : List Entry) (n i : ℕ) (e : Entry) → AheadTo y x here there n i → slice_get there i ≡ Some e
    → begins (outbound y x (e ∷ drop (i + 1) there)) (of_origin y (drop n here)) ≡ false → false ≡ begins (outbound y x there) (of_origin y here)
ahead_fails y x here there n i e h at is = sym is ∙ (sym (ap (λ (es : List Entry). begins (outbound y x es) (of_origin y (drop n here))) (get_at there i e at)) ∙ h.rest)

pub ahead_all : (y x : ℕ) (here there : List Entry) (n i : ℕ) → AheadTo y x here there n i → length there ≤ i → true ≡ begins (outbound y x there) (of_origin y here)
ahead_all y x here there n i h le = sym (ap (λ (es : List Entry). begins (outbound y x es) (of_origin y (drop n here))) (drop_of_length-le there le)) ∙ h.rest

-- ---- what came, entry by entry

pub record BroughtTo (t y x : ℕ) (here there : List Entry) (old found : List Finding) (from i : ℕ) : Type 0 where
  pub all : found ++ brought_from t y x here there from i (drop i here) ≡ old ++ brought_from t y x here there 0 0 here

pub brought_begun : (t y x : ℕ) (here there : List Entry) (old : List Finding) → BroughtTo t y x here there old old 0 0
brought_begun t y x here there old = record { all = refl }

pub brought_more : (t y x : ℕ) (here there : List Entry) (old found found' : List Finding) (from from' i : ℕ) (e : Entry) → BroughtTo t y x here there old found from i → slice_get here i ≡ Some e
    → found' ≡ found ++ (brought_one t y x here there from i e).found → from' ≡ (brought_one t y x here there from i e).from → BroughtTo t y x here there old found' from' (i + 1)
brought_more t y x here there old found found' from from' i e h at is on = record {
  all =
      let b : Brought = brought_one t y x here there from i e in
      ap (λ (gs : List Finding). gs ++ brought_from t y x here there from' (i + 1) (drop (i + 1) here)) is
      ∙ (ap (λ (n : ℕ). (found ++ b.found) ++ brought_from t y x here there n (i + 1) (drop (i + 1) here)) on
      ∙ (append_assoc found b.found (brought_from t y x here there b.from (i + 1) (drop (i + 1) here))
      ∙ (ap (λ (es : List Entry). found ++ brought_from t y x here there from i es) (sym (get_at here i e at)) ∙ h.all)));
}

pub brought_all : (t y x : ℕ) (here there : List Entry) (old found : List Finding) (from i : ℕ) → BroughtTo t y x here there old found from i → length here ≤ i
    → found ≡ old ++ brought_from t y x here there 0 0 here
brought_all t y x here there old found from i h le = sym (append-nil found) ∙ (ap (λ (es : List Entry). found ++ brought_from t y x here there from i es) (sym (drop_of_length-le here le)) ∙ h.all)

-- ---- what is missing before one

pub record GapsTo (t y x : ℕ) (here there : List Entry) (old found : List Finding) (from end i : ℕ) : Type 0 where
  pub all : found ++ gaps t y x here i (take (end - i) (drop i there)) ≡ old ++ gaps t y x here from (take (end - from) (drop from there))

pub gaps_begun : (t y x : ℕ) (here there : List Entry) (old : List Finding) (from end : ℕ) → GapsTo t y x here there old old from end from
gaps_begun t y x here there old from end = record { all = refl }

taken : {X : Type 0} (xs : List X) (end i : ℕ) (x : X) → i < end → slice_get xs i ≡ Some x → take (end - i) (drop i xs) ≡ x ∷ take (end - (i + 1)) (drop (i + 1) xs)
taken xs end i x lt at =
    let e : end - i ≡ suc (end - (i + 1)) = omega (arith, lt) in ap (λ (n : ℕ). take n (drop i xs)) e ∙ ap (λ ys. take (suc (end - (i + 1))) ys) (get_at xs i x at)

pub gaps_more : (t y x : ℕ) (here there : List Entry) (old found found' : List Finding) (from end i : ℕ) (f : Entry) → GapsTo t y x here there old found from end i → i < end → slice_get there i ≡ Some f
    → found' ≡ found ++ unless (not (is_missing y x here f)) (finding.Gap t x y i) → GapsTo t y x here there old found' from end (i + 1)
gaps_more t y x here there old found found' from end i f h lt at is = record {
  all =
      ap (λ (gs : List Finding). gs ++ gaps t y x here (i + 1) (take (end - (i + 1)) (drop (i + 1) there))) is
      ∙ (append_assoc found (unless (not (is_missing y x here f)) (finding.Gap t x y i)) (gaps t y x here (i + 1) (take (end - (i + 1)) (drop (i + 1) there)))
      ∙ (ap (λ (fs : List Entry). found ++ gaps t y x here i fs) (sym (taken there end i f lt at)) ∙ h.all));
}

pub gaps_all : (t y x : ℕ) (here there : List Entry) (old found : List Finding) (from end i : ℕ) → GapsTo t y x here there old found from end i → end ≤ i
    → found ≡ old ++ gaps t y x here from (take (end - from) (drop from there))
gaps_all t y x here there old found from end i h le =
    sym (append-nil found) ∙ (ap (λ (n : ℕ). found ++ gaps t y x here i (take n (drop i there))) (let e : 0 ≡ end - i = omega (arith, le) in e) ∙ h.all)

-- ---- what both could have

common_step : (y z i : ℕ) (es : List Entry) (k : ℕ) (e : Entry) (b : Bool) → slice_get es k ≡ Some e → is_common y z e ≡ b
    → common_from y z i (drop k es) ≡ (if b then record { index = i; entry = e } ∷ common_from y z (i + 1) (drop (k + 1) es) else common_from y z (i + 1) (drop (k + 1) es))
common_step y z i es k e b at is =
    ap (common_from y z i) (get_at es k e at) ∙ ap (λ (c : Bool). if c then record { index = i; entry = e } ∷ common_from y z (i + 1) (drop (k + 1) es) else common_from y z (i + 1) (drop (k + 1) es)) is

pub common_passes : (y z : ℕ) (es : List Entry) (i : ℕ) (e : Entry) → slice_get es i ≡ Some e → is_common y z e ≡ false → common_from y z i (drop i es) ≡ common_from y z (i + 1) (drop (i + 1) es)
common_passes y z es i e at fails = common_step y z i es i e false at fails

pub common_some : (y z : ℕ) (es : List Entry) (from i : ℕ) (e : Entry) → i < length es → slice_get es i ≡ Some e → is_common y z e ≡ true → common_from y z i (drop i es) ≡ common_from y z from (drop from es)
    → IsNextCommon y z es from i
common_some y z es from i e lt at own same = record {
  within = lt;
  is = λ f atf.
      let f_is : e ≡ f = same_Some e f (sym at ∙ atf) in
      sym same ∙ (common_step y z i es i e true at own ∙ ap (λ (g : Entry). record { index = i; entry = g } ∷ common_from y z (i + 1) (drop (i + 1) es)) f_is);
}

pub common_none : (y z : ℕ) (es : List Entry) (from i : ℕ) → length es ≤ i → common_from y z i (drop i es) ≡ common_from y z from (drop from es) → common_from y z from (drop from es) ≡ []
common_none y z es from i le same = sym same ∙ ap (common_from y z i) (drop_of_length-le es le)

-- ---- one entry, that is of another origin, and that stands nowhere there

brought_step : (t y x : ℕ) (here there : List Entry) (from i : ℕ) (e : Entry) (b : Bool) → (e.ident.origin == y) ≡ b
    → brought_one t y x here there from i e ≡ (if b then brought_as t y x here there from i (source_of y x e there) else record { found = []; from = from })
brought_step t y x here there from i e b is = ap (λ (c : Bool). if c then brought_as t y x here there from i (source_of y x e there) else record { found = []; from = from }) is

pub other_found : (t y x : ℕ) (here there : List Entry) (old : List Finding) (from i : ℕ) (e : Entry) → (e.ident.origin == y) ≡ false → old ≡ old ++ (brought_one t y x here there from i e).found
other_found t y x here there old from i e other = sym (append-nil old) ∙ ap (λ (b : Brought). old ++ b.found) (sym (brought_step t y x here there from i e false other))

pub nowhere_found : (t y x : ℕ) (here there : List Entry) (old new : List Finding) (from i : ℕ) (e : Entry) → (e.ident.origin == y) ≡ true → source_of y x e there ≡ None → new ≡ old ++ finding.Nowhere t x i y ∷ []
    → new ≡ old ++ (brought_one t y x here there from i e).found
nowhere_found t y x here there old new from i e own none is =
    is
    ∙ ap (λ (b : Brought). old ++ b.found)
    (sym (brought_step t y x here there from i e true own ∙ ap (brought_as t y x here there from i) none))
