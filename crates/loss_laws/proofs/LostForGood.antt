-- What is lost for good, and what is not.
use Rattle.std.proofs.Common.{◌≡◌, ◌≢◌, ℕ, zero, suc, ◌+◌, ◌<◌, ◌≤◌, ◌==◌, Bool, true, false, not, List, [], ◌∷◌, length, refl, sym, ap, subst, ◌∙◌, arith, inl, inr}
use Rattle.std.specs.Prelude.{◌⊎◌, ◌&&◌, ◌||◌, if◌then◌else◌, Some, slice_get}
use Rattle.std.specs.List.{list_any, range_with_len}
use Rattle.std.proofs.lemmas.Bool.{and_parts, cases_lt, eq-eqb, eqb-true, false≢true, false_from_ne_true, not-true, or_parts}
use Rattle.std.proofs.lemmas.Option.{none-some, same_Some}
use Rattle.geo_base.specs.declared.entry.Entry.{Entry}
use Rattle.geo_base.specs.Entry.{goes_to}
use Rattle.geo_base.specs.Safe.{IsEntry}
use Rattle.geo_base.specs.Setup.{Setup}
use Rattle.geo_base.specs.World.{World, topic_at}
use Rattle.loss_laws.specs.Lost.{alone, any_other, chosen, differ, differs, is_alone, is_for_others, is_lacked, is_lost, is_own_message, lost, stands_elsewhere}
use Rattle.loss_laws.specs.LossLaws.{IsNamed, IsOther, LawLost, stands_at}
use Rattle.loss_laws.proofs.Chosen.{chosen_get}

-- ---- what stands and is chosen is named

named_here : (a : Entry) (r : List Entry) (e : Entry) (b : Bool) → b ≡ true → Some a ≡ Some e → IsNamed (if b then a ∷ r else r) e
named_here a r e true is at = (zero, at)
named_here a r e false is at = absurd (false≢true is)

named_later : (a : Entry) (r : List Entry) (e : Entry) (b : Bool) → IsNamed r e → IsNamed (if b then a ∷ r else r) e
named_later a r e true h = (suc h.0, h.1)
named_later a r e false h = h

chosen_has : (p : ℕ → Entry → Bool) (n i : ℕ) (es : List Entry) (e : Entry) → slice_get es i ≡ Some e → p (n + i) e ≡ true → IsNamed (chosen p n es) e
chosen_has p n i [] e at is = absurd (none-some e at)
chosen_has p n zero (a ∷ es) e at is =
    let same : n + zero ≡ n = omega arith in
    let first : p n e ≡ true = subst (λ (k : ℕ). p k e ≡ true) same is in
    named_here a (chosen p (n + 1) es) e (p n a) (subst (λ (f : Entry). p n f ≡ true) (sym (same_Some a e at)) first) at
chosen_has p n (suc i) (a ∷ es) e at is =
    let same : n + suc i ≡ (n + 1) + i = omega arith in
    named_later a (chosen p (n + 1) es) e (p n a) (chosen_has p (n + 1) i es e at (subst (λ (k : ℕ). p k e ≡ true) same is))

-- ---- another cluster

record FoundIn (p : ℕ → Bool) (a n : ℕ) : Type 0 where
  place : ℕ
  from : a ≤ place
  below : place < a + n
  passes : p place ≡ true

found_step : (p : ℕ → Bool) (a n : ℕ) (b : Bool) → p a ≡ b → (list_any p (range_with_len (a + 1) n) ≡ true → FoundIn p (a + 1) n)
    → (b || list_any p (range_with_len (a + 1) n)) ≡ true → FoundIn p a (suc n)
found_step p a n true here later e = record { place = a; from = omega arith; below = omega arith; passes = here }
found_step p a n false here later e =
    let f = later e in record { place = f.place; from = omega (arith, f.from); below = omega (arith, f.below); passes = f.passes }

any_found : (p : ℕ → Bool) (a n : ℕ) → list_any p (range_with_len a n) ≡ true → FoundIn p a n
any_found p a zero e = absurd (false≢true e)
any_found p a (suc n) e = found_step p a n (p a) refl (any_found p (a + 1) n) e

any_none : (p : ℕ → Bool) (a n : ℕ) → list_any p (range_with_len a n) ≡ false → (y : ℕ) → a ≤ y → y < a + n → p y ≡ false
any_none p a zero e y from below = absurd (omega (arith, from, below))
any_none p a (suc n) e y from below =
    let both = or_parts (p a) (list_any p (range_with_len (a + 1) n)) e in
    elim (cases_lt a y) [
      | inl later ↦ any_none p (a + 1) n both.1 y (omega (arith, later)) (omega (arith, below))
      | inr past ↦ let here : a ≡ y = omega (arith, from, past) in subst (λ (k : ℕ). p k ≡ false) here both.0
    ]

apart : (x y : ℕ) → not (x == y) ≡ true → x ≢ y
apart x y h same = false≢true (sym (not-true (x == y) h) ∙ eq-eqb x y same)

other_found : (s : Setup) (x : ℕ) (p : ℕ → Bool) → any_other s x p ≡ true → (y : ℕ) × IsOther s x y × (p y ≡ true)
other_found s x p e =
    let f = any_found (λ y. not (x == y) && p y) 0 (length s.clusters) e in
    let both = and_parts (not (x == f.place)) (p f.place) f.passes in
    (f.place, (omega (arith, f.below), apart x f.place both.0), both.1)

other_none : (s : Setup) (x : ℕ) (p : ℕ → Bool) → any_other s x p ≡ false → (y : ℕ) → IsOther s x y → p y ≡ false
other_none s x p e y other =
    let not_same : (x == y) ≡ false = false_from_ne_true (x == y) (λ h. other.1 (eqb-true x y h)) in
    sym (ap (λ (b : Bool). not b && p y) not_same)
    ∙ any_none (λ y. not (x == y) && p y) 0 (length s.clusters) e y (omega arith) (omega (arith, other.0))

-- ---- what is named

lost_parts : (s : Setup) (w : World) (t x i : ℕ) (e : Entry) → is_lost s w t x i e ≡ true → (is_for_others s x e ≡ true) × (stands_elsewhere s w t x e ≡ false)
lost_parts s w t x i e h =
    let outer = and_parts (is_own_message x e && is_for_others s x e) (not (stands_elsewhere s w t x e)) h in
    ((and_parts (is_own_message x e) (is_for_others s x e) outer.0).1, not-true (stands_elsewhere s w t x e) outer.1)

differ_parts : (s : Setup) (w : World) (t x i : ℕ) (e : Entry) → differs s w t x i e ≡ true → (stands_elsewhere s w t x e ≡ true) × (is_lacked s w t x e ≡ true)
differ_parts s w t x i e h =
    let outer = and_parts (is_own_message x e && stands_elsewhere s w t x e) (is_lacked s w t x e) h in
    ((and_parts (is_own_message x e) (stands_elsewhere s w t x e) outer.0).1, outer.1)

-- what lacks it
lacked_at : (s : Setup) (w : World) (t x : ℕ) (e : Entry) → is_lacked s w t x e ≡ true
    → (y : ℕ) × IsOther s x y × (goes_to y e.to ≡ true) × (stands_at s w t y e ≡ false)
lacked_at s w t x e h =
    let f = other_found s x (λ y. goes_to y e.to && not (stands_at s w t y e)) h in
    let both = and_parts (goes_to f.0 e.to) (not (stands_at s w t f.0 e)) f.2 in
    (f.0, f.1, both.0, not-true (stands_at s w t f.0 e) both.1)

-- ---- what is not

kept : (g a : Bool) → (g && not a) ≡ false → g ≡ true → a ≡ true
kept true true h meant = refl
kept true false h meant = absurd (false≢true (sym h))
kept false a h meant = absurd (false≢true meant)

-- by whether it is meant for others, stands at one, is lacked by one
abbrev IsRest : Setup → World → ℕ → ℕ → Entry → Type 0
IsRest s w t x e = IsNamed (lost s w t x) e ⊎ (IsNamed (alone s w t x) e ⊎ (IsNamed (differ s w t x) e
    ⊎ ((y : ℕ) → IsOther s x y → goes_to y e.to ≡ true → stands_at s w t y e ≡ true)))

rest : (s : Setup) (w : World) (t x i : ℕ) (e : Entry) (f a l : Bool) → is_for_others s x e ≡ f → stands_elsewhere s w t x e ≡ a → is_lacked s w t x e ≡ l
    → IsEntry (topic_at s w t x) i e → is_own_message x e ≡ true → IsRest s w t x e
rest s w t x i e false a l for away lacked at own =
    let is : is_alone s x (0 + i) e ≡ true = ap (λ (o : Bool). o && not (is_for_others s x e)) own ∙ ap not for in
    inr (inl (chosen_has (is_alone s x) 0 i (topic_at s w t x).entries e at is))
rest s w t x i e true false l for away lacked at own =
    let is : is_lost s w t x (0 + i) e ≡ true =
    ap (λ (o : Bool). (o && is_for_others s x e) && not (stands_elsewhere s w t x e)) own
    ∙ (ap (λ (o : Bool). o && not (stands_elsewhere s w t x e)) for ∙ ap not away) in
    inl (chosen_has (is_lost s w t x) 0 i (topic_at s w t x).entries e at is)
rest s w t x i e true true true for away lacked at own =
    let is : differs s w t x (0 + i) e ≡ true =
    ap (λ (o : Bool). (o && stands_elsewhere s w t x e) && is_lacked s w t x e) own ∙ (ap (λ (o : Bool). o && is_lacked s w t x e) away ∙ lacked) in
    inr (inr (inl (chosen_has (differs s w t x) 0 i (topic_at s w t x).entries e at is)))
rest s w t x i e true true false for away lacked at own =
    inr (inr (inr (λ y other meant.
    kept (goes_to y e.to) (stands_at s w t y e) (other_none s x (λ y. goes_to y e.to && not (stands_at s w t y e)) lacked y other) meant)))

-- ---- the law

found_at : (p : ℕ → Entry → Bool) (es : List Entry) (e : Entry) → IsNamed (chosen p 0 es) e → (i : ℕ) × (p i e ≡ true)
found_at p es e h = let f = chosen_get p 0 es e h.0 h.1 in (0 + f.at, f.picked)

pub lost_law : LawLost
lost_law s w = record {
  lost_is = λ t x e named.
      let f = found_at (is_lost s w t x) (topic_at s w t x).entries e named in
      let p = lost_parts s w t x f.0 e f.1 in
      (other_found s x (λ y. goes_to y e.to) p.0, λ y other. other_none s x (λ y. stands_at s w t y e) p.1 y other);
  alone_is = λ t x e named y other.
      let f = found_at (is_alone s x) (topic_at s w t x).entries e named in
      let p = and_parts (is_own_message x e) (not (is_for_others s x e)) f.1 in
      other_none s x (λ y. goes_to y e.to) (not-true (is_for_others s x e) p.1) y other;
  differ_is = λ t x e named.
      let f = found_at (differs s w t x) (topic_at s w t x).entries e named in
      let p = differ_parts s w t x f.0 e f.1 in
      (other_found s x (λ y. stands_at s w t y e) p.0, lacked_at s w t x e p.1);
  rest = λ t x i e at own. rest s w t x i e (is_for_others s x e) (stands_elsewhere s w t x e) (is_lacked s w t x e) refl refl refl at own;
}
