-- The receipts that a replicator awaits: where their numbers differ, a receipt that comes is of one index, and leaves all others.
use Rattle.std.proofs.Common.{◌≡◌, ℕ, zero, suc, Bool, true, false, List, [], ◌∷◌, ◌++◌, refl, sym, ap, ◌∙◌, ◌==◌, inl, inr, ◌⊎◌}
use Rattle.std.specs.Prelude.{Some, None, if◌then◌else◌, slice_get}
use Rattle.std.proofs.lemmas.Bool.{eqb-true, eqb-false}
use Rattle.std.proofs.lemmas.Option.{none-some, same_Some}
use Rattle.world_laws.proofs.Types.{Pending}
use Rattle.geo_base.specs.Replicator.{pending_index, without_number}
use Rattle.world_laws.proofs.OnceInOrder.Members.{Stands, get_push, stands_next}
use Rattle.world_laws.proofs.Replicating.SessionFacts.{pending_is, without_is}

-- none of them has a number
abbrev pub Lacks : ℕ → List Pending → Type 0
Lacks n ps = (d : Pending) → Stands ps d → d.number ≡ n → ⊥

-- all numbers differ
abbrev pub Differ : List Pending → Type 0
Differ [] = Unit {0}
Differ (p ∷ ps) = Lacks p.number ps × Differ ps

stands_first : (p d : Pending) (ps : List Pending) → Stands (p ∷ ps) d → (p ≡ d) ⊎ Stands ps d
stands_first p d ps s = by s.place s.is
  where
    by : (k : ℕ) → slice_get (p ∷ ps) k ≡ Some d → (p ≡ d) ⊎ Stands ps d
    by zero h = inl (same_Some _ _ h)
    by (suc k) h = inr (record { place = k; is = h })

-- without one number
pub without_less : (ps : List Pending) (n : ℕ) (d : Pending) → Stands (without_number ps n) d → Stands ps d
without_less ps n d s = without_is ps n s.place d s.is

pub without_gone : (ps : List Pending) (n : ℕ) → Differ ps → Lacks n (without_number ps n)
without_gone [] n h = λ d s is. none-some d s.is
without_gone (p ∷ ps) n h = by (p.number == n) refl (without_gone ps n h.1)
  where
    by : (b : Bool) → (p.number == n) ≡ b → Lacks n (without_number ps n) → Lacks n (if b then ps else p ∷ without_number ps n)
    by true e ih = λ d s is. h.0 d s (is ∙ sym (eqb-true p.number n e))
    by false e ih = λ d s is.
        elim (stands_first p d (without_number ps n) s) [
          | inl same ↦ eqb-false p.number n e (ap (λ (q : Pending). q.number) same ∙ is)
          | inr t ↦ ih d t is
        ]

pub without_keeps : (ps : List Pending) (n : ℕ) (d : Pending) → Stands ps d → (d.number ≡ n → ⊥) → Stands (without_number ps n) d
without_keeps [] n d s other = absurd (none-some d s.is)
without_keeps (p ∷ ps) n d s other = by (p.number == n) refl (λ t. without_keeps ps n d t other) (stands_first p d ps s)
  where
    by : (b : Bool) → (p.number == n) ≡ b → (Stands ps d → Stands (without_number ps n) d) → (p ≡ d) ⊎ Stands ps d
        → Stands (if b then ps else p ∷ without_number ps n) d
    by true e ih (inl same) = absurd (other (ap (λ (q : Pending). q.number) (sym same) ∙ eqb-true p.number n e))
    by true e ih (inr t) = t
    by false e ih (inl same) = record { place = zero; is = ap Some same }
    by false e ih (inr t) = stands_next p (without_number ps n) d (ih t)

pub without_differ : (ps : List Pending) (n : ℕ) → Differ ps → Differ (without_number ps n)
without_differ [] n h = tt
without_differ (p ∷ ps) n h = by (p.number == n) (without_differ ps n h.1)
  where
    by : (b : Bool) → Differ (without_number ps n) → Differ (if b then ps else p ∷ without_number ps n)
    by true ih = h.1
    by false ih = ((λ d s is. h.0 d (without_less ps n d s) is), ih)

-- one more, of a new number
pub push_differ : (ps : List Pending) (q : Pending) → Differ ps → Lacks q.number ps → Differ (ps ++ q ∷ [])
push_differ [] q h new = ((λ d s is. none-some d s.is), tt)
push_differ (p ∷ ps) q h new = (
  (λ d s is.
      elim (get_push ps q s.place d s.is) [
        | inl k ↦ h.0 d (record { place = s.place; is = k.1 }) is
        | inr k ↦ new p (record { place = zero; is = refl }) (sym is ∙ ap (λ (r : Pending). r.number) (sym k.1))
      ]),
  push_differ ps q h.1 (λ d s is. new d (stands_next p ps d s) is),
)

-- one number is one index
differ_same : (ps : List Pending) → Differ ps → (c d : Pending) → Stands ps c → Stands ps d → c.number ≡ d.number → c ≡ d
differ_same [] h c d s t is = absurd (none-some c s.is)
differ_same (p ∷ ps) h c d s t is = by (stands_first p c ps s) (stands_first p d ps t) (differ_same ps h.1 c d)
  where
    by : (p ≡ c) ⊎ Stands ps c → (p ≡ d) ⊎ Stands ps d → (Stands ps c → Stands ps d → c.number ≡ d.number → c ≡ d) → c ≡ d
    by (inl a) (inl b) ih = sym a ∙ b
    by (inl a) (inr v) ih = absurd (h.0 d v (sym is ∙ ap (λ (q : Pending). q.number) (sym a)))
    by (inr u) (inl b) ih = absurd (h.0 c u (is ∙ ap (λ (q : Pending). q.number) (sym b)))
    by (inr u) (inr v) ih = ih u v is

pub awaited_index : (ps : List Pending) (n i : ℕ) (d : Pending) → Differ ps → pending_index ps n ≡ Some i → Stands ps d → d.number ≡ n → i ≡ d.index
awaited_index ps n i d h found s is =
    ap (λ (q : Pending). q.index) (differ_same ps h (record { number = n; index = i }) d (pending_is ps n i found) s (sym is))

-- what is awaited is found
pub awaited_found : (ps : List Pending) (n : ℕ) (d : Pending) → Stands ps d → d.number ≡ n → pending_index ps n ≡ None → ⊥
awaited_found [] n d s is none = none-some d s.is
awaited_found (p ∷ ps) n d s is none = by (p.number == n) refl (awaited_found ps n d) (stands_first p d ps s) none
  where
    by : (b : Bool) → (p.number == n) ≡ b → (Stands ps d → d.number ≡ n → pending_index ps n ≡ None → ⊥) → (p ≡ d) ⊎ Stands ps d
        → (if b then Some p.index else pending_index ps n) ≡ None → ⊥
    by true e ih o gone = none-some p.index (sym gone)
    by false e ih (inl same) gone = eqb-false p.number n e (ap (λ (q : Pending). q.number) same ∙ is)
    by false e ih (inr t) gone = ih t is gone
