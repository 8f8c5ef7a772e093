-- What is chosen of some entries, and where an entry stands.
use Rattle.std.proofs.Common.{◌≡◌, ℕ, zero, suc, ◌+◌, Bool, true, false, List, [], ◌∷◌, refl, sym, ap, subst, ◌∙◌, arith}
use Rattle.std.specs.Prelude.{Option, Some, is_some, if◌then◌else◌, ◌&&◌, filter, slice_get}
use Rattle.std.proofs.lemmas.Option.{none-some, same_Some}
use Rattle.std.proofs.lemmas.Bool.{false≢true}
use Rattle.geo_base.specs.declared.entry.Entry.{Entry}
use Rattle.geo_base.specs.declared.entry.Ident.{Ident}
use Rattle.geo_base.specs.Entry.{same_ident}
use Rattle.world_laws.proofs.OnceInOrder.Members.{Stands, stands_next}
use Rattle.loss_laws.specs.Lost.{chosen, place_from, stands}

-- ---- chosen

-- a choice that looks at no index is a filter
pub chosen_is : (p : Entry → Bool) (i : ℕ) (es : List Entry) → chosen (λ k e. p e) i es ≡ filter p es
chosen_is p i [] = refl
chosen_is p i (e ∷ es) = ap (λ (l : List Entry). if p e then e ∷ l else l) (chosen_is p (i + 1) es)

-- what is chosen stands at an index at which it is chosen
pub record Found (p : ℕ → Entry → Bool) (n : ℕ) (es : List Entry) (e : Entry) : Type 0 where
  pub at : ℕ
  pub stands : slice_get es at ≡ Some e
  pub picked : p (n + at) e ≡ true

found_next : (p : ℕ → Entry → Bool) (n : ℕ) (a : Entry) (es : List Entry) (e : Entry) → Found p (n + 1) es e → Found p n (a ∷ es) e
found_next p n a es e f =
    let same : (n + 1) + f.at ≡ n + suc f.at = omega arith in
    record { at = suc f.at; stands = f.stands; picked = subst (λ (k : ℕ). p k e ≡ true) same f.picked }

found_step : (p : ℕ → Entry → Bool) (n : ℕ) (a : Entry) (es : List Entry) (e : Entry) (b : Bool) → p n a ≡ b
    → ((k : ℕ) → slice_get (chosen p (n + 1) es) k ≡ Some e → Found p (n + 1) es e)
    → (k : ℕ) → slice_get (if b then a ∷ chosen p (n + 1) es else chosen p (n + 1) es) k ≡ Some e → Found p n (a ∷ es) e
found_step p n a es e true here later zero at =
    let same : n ≡ n + zero = omega arith in
    record {
      at = zero;
      stands = at;
      picked = subst (λ (k : ℕ). p k e ≡ true) same (subst (λ (f : Entry). p n f ≡ true) (same_Some a e at) here);
    }
found_step p n a es e true here later (suc k) at = found_next p n a es e (later k at)
found_step p n a es e false here later k at = found_next p n a es e (later k at)

pub chosen_get : (p : ℕ → Entry → Bool) (n : ℕ) (es : List Entry) (e : Entry) (k : ℕ) → slice_get (chosen p n es) k ≡ Some e → Found p n es e
chosen_get p n [] e k at = absurd (none-some e at)
chosen_get p n (a ∷ es) e k at = found_step p n a es e (p n a) refl (chosen_get p (n + 1) es e) k at

-- ---- filters

both_step : (q : Entry → Bool) (e : Entry) (l m : List Entry) (b : Bool) → l ≡ filter q m
    → (if b && q e then e ∷ l else l) ≡ filter q (if b then e ∷ m else m)
both_step q e l m true same = ap (λ (k : List Entry). if q e then e ∷ k else k) same
both_step q e l m false same = same

-- two tests, one after the other
pub filter_both : (a q : Entry → Bool) (es : List Entry) → filter (λ e. a e && q e) es ≡ filter q (filter a es)
filter_both a q [] = refl
filter_both a q (e ∷ es) = both_step q e (filter (λ f. a f && q f) es) (filter a es) (a e) (filter_both a q es)

pub filter_none : (q : Entry → Bool) (es : List Entry) → ((e : Entry) → Stands es e → q e ≡ false) → filter q es ≡ []
filter_none q [] h = refl
filter_none q (e ∷ es) h =
    ap (λ (b : Bool). if b then e ∷ filter q es else filter q es) (h e (record { place = zero; is = refl }))
    ∙ filter_none q es (λ f s. h f (stands_next e es f s))

pub filter_same : (q r : Entry → Bool) (es : List Entry) → ((e : Entry) → Stands es e → q e ≡ r e) → filter q es ≡ filter r es
filter_same q r [] h = refl
filter_same q r (e ∷ es) h =
    ap (λ (b : Bool). if b then e ∷ filter q es else filter q es) (h e (record { place = zero; is = refl }))
    ∙ ap (λ (l : List Entry). if r e then e ∷ l else l) (filter_same q r es (λ f s. h f (stands_next e es f s)))

-- ---- where an entry stands

there_step : (k : ℕ) (r : Option ℕ) (b : Bool) → is_some r ≡ true → is_some (if b then Some k else r) ≡ true
there_step k r true h = refl
there_step k r false h = h

there_from : (k : ℕ) (ys : List Entry) (f : Entry) (g : Ident) (i : ℕ) → slice_get ys i ≡ Some f → same_ident f.ident g ≡ true → is_some (place_from k ys g) ≡ true
there_from k [] f g i at same = absurd (none-some f at)
there_from k (e ∷ ys) f g zero at same =
    let here : same_ident e.ident g ≡ true = subst (λ (d : Entry). same_ident d.ident g ≡ true) (sym (same_Some e f at)) same in
    ap (λ (b : Bool). is_some (if b then Some k else place_from (k + 1) ys g)) here
there_from k (e ∷ ys) f g (suc i) at same = there_step k (place_from (k + 1) ys g) (same_ident e.ident g) (there_from (k + 1) ys f g i at same)

pub stands_there : (ys : List Entry) (f : Entry) (g : Ident) → Stands ys f → same_ident f.ident g ≡ true → stands ys g ≡ true
stands_there ys f g s same = there_from 0 ys f g s.place s.is same

-- an entry of this identity
pub record HasOne (ys : List Entry) (g : Ident) : Type 0 where
  pub entry : Entry
  pub there : Stands ys entry
  pub same : same_ident entry.ident g ≡ true

has_next : (e : Entry) (ys : List Entry) (g : Ident) → HasOne ys g → HasOne (e ∷ ys) g
has_next e ys g h = record { entry = h.entry; there = stands_next e ys h.entry h.there; same = h.same }

has_step : (k : ℕ) (e : Entry) (ys : List Entry) (g : Ident) (b : Bool) → same_ident e.ident g ≡ b → (is_some (place_from (k + 1) ys g) ≡ true → HasOne ys g)
    → is_some (if b then Some k else place_from (k + 1) ys g) ≡ true → HasOne (e ∷ ys) g
has_step k e ys g true here later h = record { entry = e; there = record { place = zero; is = refl }; same = here }
has_step k e ys g false here later h = has_next e ys g (later h)

pub has_one : (k : ℕ) (ys : List Entry) (g : Ident) → is_some (place_from k ys g) ≡ true → HasOne ys g
has_one k [] g h = absurd (false≢true h)
has_one k (e ∷ ys) g h = has_step k e ys g (same_ident e.ident g) refl (has_one (k + 1) ys g) h
