-- Where an entry stands: at the first of its identity, which where each stands once is where it stands.
use Rattle.std.proofs.Common.{◌≡◌, ℕ, zero, suc, ◌+◌, ◌<◌, Bool, true, false, cond, List, [], ◌∷◌, refl, sym, ap, subst, ◌∙◌, ◌==◌, arith, inl, inr, ◌⊎◌}
use Rattle.std.specs.Prelude.{Option, Some, None, slice_get, ◌&&◌}
use Rattle.std.specs.Str.{bytes_eq}
use Rattle.std.proofs.lemmas.Bool.{and_from, and_parts, eq-eqb, eqb-true, false≢true}
use Rattle.std.proofs.lemmas.Option.{none-some, same_Some}
use Rattle.std.proofs.lemmas.Slice.Eq.{bytes_eq-Decides}
use Rattle.geo_base.specs.declared.entry.Entry.{Entry}
use Rattle.geo_base.specs.declared.entry.Ident.{Ident}
use Rattle.geo_base.specs.declared.entry.Targets.{Targets}
use Rattle.geo_base.specs.declared.entry.Targets.TheVariants as targets
use Rattle.geo_base.specs.Audit.{same_content, same_entry, same_key, same_targets}
use Rattle.geo_base.specs.Entry.{goes_to, is_outbound, same_ident, same_stream}
use Rattle.observation.specs.Observed.{first_from, if_same, if_same_at, stands_at}
use Rattle.observation.specs.Safe.{OnceIn}

-- ---- identities

pub stream_self : (g : Ident) → same_stream g g ≡ true
stream_self g = and_from (g.origin == g.origin) (bytes_eq g.producer g.producer) (eq-eqb g.origin g.origin refl) ((bytes_eq-Decides g.producer g.producer).1 refl)

pub ident_self : (g : Ident) → same_ident g g ≡ true
ident_self g = and_from (same_stream g g) (g.seq == g.seq) (stream_self g) (eq-eqb g.seq g.seq refl)

pub idents_are : (g h : Ident) → same_ident g h ≡ true → g ≡ h
idents_are g h e =
    let two = and_parts (same_stream g h) (g.seq == h.seq) e in
    let stream = and_parts (g.origin == h.origin) (bytes_eq g.producer h.producer) two.0 in
    let origin = eqb-true g.origin h.origin stream.0 in
    let producer = (bytes_eq-Decides g.producer h.producer).0 stream.1 in
    let seq = eqb-true g.seq h.seq two.1 in
    λ k. record { origin = origin k; producer = producer k; seq = seq k }

-- the same entry has the same identity
pub entry_ident : (e f : Entry) → same_entry e f ≡ true → e.ident ≡ f.ident
entry_ident e f h =
    let a = same_ident e.ident f.ident in let b = same_targets e.to f.to in let c = same_content e.content f.content in
    let d = same_key e.meta.key f.meta.key in let g = bytes_eq e.payload f.payload in
    idents_are e.ident f.ident (and_parts a b (and_parts (a && b) c (and_parts (a && b && c) d (and_parts (a && b && c && d) g h).0).0).0).0

-- and goes to the same clusters
pub entry_targets : (e f : Entry) → same_entry e f ≡ true → e.to ≡ f.to
entry_targets e f h =
    let a = same_ident e.ident f.ident in let b = same_targets e.to f.to in let c = same_content e.content f.content in
    let d = same_key e.meta.key f.meta.key in let g = bytes_eq e.payload f.payload in
    are e.to f.to (and_parts a b (and_parts (a && b) c (and_parts (a && b && c) d (and_parts (a && b && c && d) g h).0).0).0).1
  where
    are : (m n : Targets) → same_targets m n ≡ true → m ≡ n
    are targets.All targets.All h = refl
    are (targets.Only m) (targets.Only n) h = ap (λ (k : ℕ). targets.Only k) (eqb-true m n h)
    are targets.All (targets.Only n) h = absurd (false≢true h)
    are (targets.Only m) targets.All h = absurd (false≢true h)

pub same_outbound : (y x : ℕ) (e f : Entry) → same_entry e f ≡ true → is_outbound y x e ≡ is_outbound y x f
same_outbound y x e f h =
    ap (λ (g : Ident). (g.origin == y) && goes_to x e.to) (entry_ident e f h) ∙ ap (λ (m : Targets). (f.ident.origin == y) && goes_to x m) (entry_targets e f h)

-- ---- the first of an identity

pub record IsFirst (es : List Entry) (g : Ident) (i : ℕ) : Type 0 where
  pub entry : Entry
  pub at : slice_get es i ≡ Some entry
  pub is : entry.ident ≡ g

first_is : (n : ℕ) (es : List Entry) (g : Ident) (i : ℕ) → first_from n es g ≡ Some i → (k : ℕ) × (i ≡ n + k) × IsFirst es g k
first_is n [] g i h = absurd (none-some i h)
first_is n (e ∷ es) g i h = by (same_ident e.ident g) refl (first_is (n + 1) es g i) h
  where
    by : (b : Bool) → same_ident e.ident g ≡ b → (first_from (n + 1) es g ≡ Some i → (k : ℕ) × (i ≡ (n + 1) + k) × IsFirst es g k) → cond b (Some n) (first_from (n + 1) es g) ≡ Some i → (k : ℕ) × (i ≡ n + k) × IsFirst (e ∷ es) g k
    by true same rest is = let at : n ≡ i = same_Some _ _ is in (zero, omega (arith, at), record { entry = e; at = refl; is = idents_are e.ident g same })
    by false same rest is =
        let r = rest is in let at : i ≡ (n + 1) + r.0 = r.1 in
        (suc r.0, omega (arith, at), record { entry = r.2.entry; at = r.2.at; is = r.2.is })

pub first_at : (es : List Entry) (g : Ident) (i : ℕ) → first_from 0 es g ≡ Some i → IsFirst es g i
first_at es g i h = let r = first_is 0 es g i h in let at : r.0 ≡ i = (let e : i ≡ 0 + r.0 = r.1 in omega (arith, e)) in subst (λ (k : ℕ). IsFirst es g k) at r.2

-- there is one where the identity stands somewhere, at or below it
found_from : (n : ℕ) (es : List Entry) (g : Ident) (k : ℕ) (f : Entry) → slice_get es k ≡ Some f → f.ident ≡ g → (i : ℕ) × (first_from n es g ≡ Some i)
found_from n [] g k f at is = absurd (none-some f at)
found_from n (e ∷ es) g k f at is = by (same_ident e.ident g) refl (λ m mat. found_from (n + 1) es g m f mat is) k at
  where
    by : (b : Bool) → same_ident e.ident g ≡ b → ((m : ℕ) → slice_get es m ≡ Some f → (i : ℕ) × (first_from (n + 1) es g ≡ Some i)) → (k : ℕ) → slice_get (e ∷ es) k ≡ Some f → (i : ℕ) × (cond b (Some n) (first_from (n + 1) es g) ≡ Some i)
    by true same rest k at = (n, refl)
    by false same rest zero at =
        let own : same_ident e.ident g ≡ true = subst (λ (h : Ident). same_ident e.ident h ≡ true) (ap (λ (d : Entry). d.ident) (same_Some _ _ at) ∙ is) (ident_self e.ident) in
        absurd (false≢true (sym same ∙ own))
    by false same rest (suc k) at = rest k at

-- one identity stands once
pub one_place : (es : List Entry) (i j : ℕ) (e f : Entry) → OnceIn es → slice_get es i ≡ Some e → slice_get es j ≡ Some f → e.ident ≡ f.ident → i ≡ j
one_place es i j e f once ati atj same = by (order i j)
  where
    stream : (g h : Ident) → g ≡ h → same_stream g h ≡ true
    stream g h is = subst (λ (a : Ident). same_stream g a ≡ true) is (stream_self g)

    order : (a b : ℕ) → (a < b) ⊎ ((a ≡ b) ⊎ (b < a))
    order zero zero = inr (inl refl)
    order zero (suc b) = inl (omega arith)
    order (suc a) zero = inr (inr (omega arith))
    order (suc a) (suc b) = elim (order a b) [ inl h ↦ inl (omega (arith, h)) | inr r ↦ elim r [ inl h ↦ inr (inl (ap suc h)) | inr h ↦ inr (inr (omega (arith, h))) ] ]

    by : (i < j) ⊎ ((i ≡ j) ⊎ (j < i)) → i ≡ j
    by (inl lt) = let h = once i j e f lt ati atj (stream e.ident f.ident same) in let q = ap (λ (g : Ident). g.seq) same in absurd (omega (arith, h, q))
    by (inr (inl is)) = is
    by (inr (inr lt)) = let h = once j i f e lt atj ati (stream f.ident e.ident (sym same)) in let q = ap (λ (g : Ident). g.seq) same in absurd (omega (arith, h, q))

-- ---- where an entry stands

pub record IsAt (e : Entry) (es : List Entry) (i : ℕ) : Type 0 where
  pub entry : Entry
  pub at : slice_get es i ≡ Some entry
  pub same : same_entry e entry ≡ true

pub stands_is : (e : Entry) (es : List Entry) (i : ℕ) → stands_at e es ≡ Some i → IsAt e es i
unfolding stands_at
stands_is e es i h = go (first_from 0 es e.ident) h
  where
    by : (k : ℕ) (f : Entry) (b : Bool) → slice_get es k ≡ Some f → same_entry e f ≡ b → cond b (Some k) None ≡ Some i → IsAt e es i
    by k f true at equal is = let k_is : k ≡ i = same_Some _ _ is in record { entry = f; at = subst (λ (n : ℕ). slice_get es n ≡ Some f) k_is at; same = equal }
    by k f false at differ is = absurd (none-some i is)

    same : (k : ℕ) (o : Option Entry) → slice_get es k ≡ o → if_same e k o ≡ Some i → IsAt e es i
    same k None at is = absurd (none-some i is)
    same k (Some f) at is = by k f (same_entry e f) at refl is

    go : (o : Option ℕ) → if_same_at e es o ≡ Some i → IsAt e es i
    go None is = absurd (none-some i is)
    go (Some k) is = same k (slice_get es k) refl is

pub stands_once : (e f : Entry) (es : List Entry) (i : ℕ) → OnceIn es → slice_get es i ≡ Some f → same_entry e f ≡ true → stands_at e es ≡ Some i
unfolding stands_at
stands_once e f es i once at same =
    let ident = entry_ident e f same in
    let r = found_from 0 es e.ident i f at (sym ident) in let first = first_at es e.ident r.0 r.1 in
    let place : r.0 ≡ i = one_place es r.0 i first.entry f once first.at at (first.is ∙ ident) in
    ap (if_same_at e es) r.1 ∙ ap (λ (k : ℕ). if_same e k (slice_get es k)) place ∙ ap (if_same e i) at ∙ ap (λ (b : Bool). cond b (Some i) None) same
