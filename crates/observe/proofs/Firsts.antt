-- The table finds the first entry of each identity, also when there is one more.
use Rattle.std.proofs.Common.{◌≡◌, ℕ, zero, suc, ◌+◌, ◌<◌, Bool, true, false, cond, List, [], ◌∷◌, ◌++◌, length, refl, sym, ap, subst, ◌∙◌, arith}
use Rattle.std.specs.Prelude.{Option, Some, None, is_some, if◌then◌else◌, slice_get, slice_index_or}
use Rattle.std.proofs.lemmas.Bool.{false≢true}
use Rattle.std.proofs.lemmas.Option.{none-some, same_Some}
use Rattle.geo_base.specs.declared.entry.Entry.{Entry}
use Rattle.geo_base.specs.declared.entry.Ident.{Ident}
use Rattle.geo_base.specs.Entry.{same_ident}
use Rattle.audit.specs.declared.identity.Identity.{Identity}
use Rattle.audit.specs.Stored.{Row, identity_of, is_identity, place_in}
use Rattle.audit.proofs.Tables.{place_noted}
use Rattle.indexmap.specs.IndexMap.{insert_entry}
use Rattle.observation.specs.Observed.{first_from}
use Rattle.observation.proofs.Places.{ident_self, idents_are}
use Rattle.observe.specs.Kept.{AreKept, identities_of, with_first}

pub kept_none : AreKept [] [] []
kept_none = record { identities = refl; firsts = λ g. refl }

pub found_first : (es : List Entry) (ids : List Identity) (rows : List Row) (k : Identity) (g : Ident) → AreKept es ids rows → k ≡ identity_of g → place_in rows k ≡ first_from 0 es g
found_first es ids rows k g kept is = ap (place_in rows) is ∙ kept.firsts g

-- the first of an identity among some entries and one more
or_last : Option ℕ → Bool → ℕ → Option ℕ
or_last (Some i) b n = Some i
or_last None b n = cond b (Some n) None

first_more : (n : ℕ) (es : List Entry) (e : Entry) (g : Ident) → first_from n (es ++ e ∷ []) g ≡ or_last (first_from n es g) (same_ident e.ident g) (n + length es)
unfolding or_last
first_more n [] e g = let m : n ≡ n + 0 = omega arith in ap (λ (k : ℕ). cond (same_ident e.ident g) (Some k) None) m
first_more n (a ∷ es) e g = by (same_ident a.ident g) (first_more (n + 1) es e g)
  where
    by : (b : Bool) → first_from (n + 1) (es ++ e ∷ []) g ≡ or_last (first_from (n + 1) es g) (same_ident e.ident g) ((n + 1) + length es)
        → cond b (Some n) (first_from (n + 1) (es ++ e ∷ []) g) ≡ or_last (cond b (Some n) (first_from (n + 1) es g)) (same_ident e.ident g) (n + length (a ∷ es))
    by true h = refl
    by false h =
        let m : (n + 1) + length es ≡ n + length (a ∷ es) = omega arith in h ∙ ap (or_last (first_from (n + 1) es g) (same_ident e.ident g)) m

-- two identities are one where the keys are
same_key_is : (g h : Ident) → is_identity (identity_of g) (identity_of h) ≡ same_ident h g
same_key_is g h = by (is_identity (identity_of g) (identity_of h)) refl
  where
    by : (b : Bool) → is_identity (identity_of g) (identity_of h) ≡ b → is_identity (identity_of g) (identity_of h) ≡ same_ident h g
    by true is = let one : g ≡ h = idents_are g h is in is ∙ sym (subst (λ (i : Ident). same_ident h i ≡ true) (sym one) (ident_self h))
    by false is = is ∙ sym (other (same_ident h g) refl)
      where
        other : (c : Bool) → same_ident h g ≡ c → same_ident h g ≡ false
        other true same = let one : h ≡ g = idents_are h g same in absurd (false≢true (sym is ∙ subst (λ (i : Ident). is_identity (identity_of g) (identity_of i) ≡ true) (sym one) (ident_self g)))
        other false same = same

more_firsts : (es : List Entry) (e : Entry) (rows : List Row) → ((g : Ident) → place_in rows (identity_of g) ≡ first_from 0 es g) → (g : Ident)
    → place_in (with_first rows (identity_of e.ident) (length es)) (identity_of g) ≡ first_from 0 (es ++ e ∷ []) g
unfolding or_last
more_firsts es e rows firsts g = by (place_in rows (identity_of e.ident)) refl ∙ sym (first_more 0 es e g ∙ ap (or_last (first_from 0 es g) (same_ident e.ident g)) start)
  where
    start : 0 + length es ≡ length es
    start = omega arith

    -- it was there: nothing is told, and whoever has no first yet is another one
    old : (i : ℕ) → place_in rows (identity_of e.ident) ≡ Some i → (o : Option ℕ) → first_from 0 es g ≡ o → o ≡ or_last o (same_ident e.ident g) (length es)
    old i at (Some k) is = refl
    old i at None is = other (same_ident e.ident g) refl
      where
        other : (b : Bool) → same_ident e.ident g ≡ b → None ≡ cond b (Some (length es)) None
        other false same = refl
        other true same =
            let one : e.ident ≡ g = idents_are e.ident g same in
            absurd (none-some i (sym is ∙ (sym (firsts g) ∙ (ap (λ (h : Ident). place_in rows (identity_of h)) (sym one) ∙ at))))

    new : place_in rows (identity_of e.ident) ≡ None → (b : Bool) → same_ident e.ident g ≡ b → (o : Option ℕ) → first_from 0 es g ≡ o
        → (if b then Some (length es) else place_in rows (identity_of g)) ≡ or_last o b (length es)
    new none false same o is = firsts g ∙ (is ∙ kept o)
      where
        kept : (o : Option ℕ) → o ≡ or_last o false (length es)
        kept None = refl
        kept (Some k) = refl
    new none true same None is = refl
    new none true same (Some k) is =
        let one : e.ident ≡ g = idents_are e.ident g same in
        absurd (none-some k (sym none ∙ (ap (λ (h : Ident). place_in rows (identity_of h)) one ∙ (firsts g ∙ is))))

    by : (o : Option ℕ) → place_in rows (identity_of e.ident) ≡ o
        → place_in (with_first rows (identity_of e.ident) (length es)) (identity_of g) ≡ or_last (first_from 0 es g) (same_ident e.ident g) (length es)
    by (Some i) at =
        ap (λ (p : Option ℕ). place_in (if is_some p then rows else insert_entry is_identity rows (identity_of e.ident) (length es)) (identity_of g)) at
        ∙ (firsts g ∙ old i at (first_from 0 es g) refl)
    by None at =
        ap (λ (p : Option ℕ). place_in (if is_some p then rows else insert_entry is_identity rows (identity_of e.ident) (length es)) (identity_of g)) at
        ∙ (place_noted rows (identity_of e.ident) (length es) (identity_of g)
        ∙ (ap (λ (b : Bool). if b then Some (length es) else place_in rows (identity_of g)) (same_key_is g e.ident)
        ∙ new at (same_ident e.ident g) refl (first_from 0 es g) refl))

map_more : (es : List Entry) (e : Entry) → identities_of (es ++ e ∷ []) ≡ identities_of es ++ identity_of e.ident ∷ []
map_more [] e = refl
map_more (a ∷ es) e = ap (λ (l : List Identity). identity_of a.ident ∷ l) (map_more es e)

pub kept_more : (es : List Entry) (e : Entry) (ids ids' : List Identity) (rows rows' : List Row) (n : ℕ) → AreKept es ids rows → ids' ≡ ids ++ identity_of e.ident ∷ [] → n ≡ length es
    → rows' ≡ with_first rows (identity_of e.ident) n → AreKept (es ++ e ∷ []) ids' rows'
kept_more es e ids ids' rows rows' n kept more size told = record {
  identities = more ∙ (ap (λ (l : List Identity). l ++ identity_of e.ident ∷ []) kept.identities ∙ sym (map_more es e));
  firsts = λ g. ap (λ (r : List Row). place_in r (identity_of g)) (told ∙ ap (with_first rows (identity_of e.ident)) size) ∙ more_firsts es e rows kept.firsts g;
}

-- the identity of the entry at an index
pub identity_is : (es : List Entry) (ids : List Identity) (rows : List Row) (i : ℕ) (e : Entry) (k : Identity) → AreKept es ids rows → slice_get es i ≡ Some e → i < length ids → k ≡ slice_index_or ids i k → k ≡ identity_of e.ident
identity_is es ids rows i e k kept at lt is = is ∙ (ap (λ (l : List Identity). slice_index_or l i k) kept.identities ∙ mapped es i at)
  where
    mapped : (fs : List Entry) (j : ℕ) → slice_get fs j ≡ Some e → slice_index_or (identities_of fs) j k ≡ identity_of e.ident
    mapped [] j at = absurd (none-some e at)
    mapped (f ∷ fs) zero at = ap (λ (a : Entry). identity_of a.ident) (same_Some f e at)
    mapped (f ∷ fs) (suc j) at = mapped fs j at
