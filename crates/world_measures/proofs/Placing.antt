-- The table of where entries stand.
use Rattle.std.proofs.Common.{◌≡◌, ℕ, ◌+◌, ◌<◌, ◌==◌, Bool, true, false, List, [], ◌∷◌, ◌++◌, drop, length, refl, sym, ap, subst, ◌∙◌, arith, inl, inr}
use Rattle.std.specs.Prelude.{◌&&◌, Option, Some, if◌then◌else◌, slice_get, slice_index_or}
use Rattle.std.specs.Str.{bytes_eq}
use Rattle.std.proofs.lemmas.Bool.{and_from, and_parts, eq-eqb, eqb-true, false≢true}
use Rattle.std.proofs.lemmas.List.{get_or_append_left, get_or_push}
use Rattle.std.proofs.lemmas.Slice.Eq.{bytes_eq-Decides}
use Rattle.geo_base.specs.declared.entry.Entry.{Entry}
use Rattle.geo_base.specs.declared.entry.Ident.{Ident}
use Rattle.geo_base.specs.Entry.{same_ident}
use Rattle.indexmap.specs.IndexMap.{insert_entry}
use Rattle.report_lines.proofs.Added.{drop_here}
use Rattle.world_laws.proofs.OnceInOrder.Members.{below_or}
use Rattle.loss_laws.specs.Lost.{place_from}
use Rattle.world_measures.specs.declared.identity.Identity.{Identity}
use Rattle.world_measures.specs.Places.{Row, Tells, identity_of, is_identity, place_in}
use Rattle.geo_base.proofs.Bools.{ifs_swap}

-- ---- identities

record SameParts (a b : Identity) : Type 0 where
  origin : a.origin ≡ b.origin
  producer : a.producer ≡ b.producer
  seq : a.seq ≡ b.seq

same_parts : (a b : Identity) → is_identity a b ≡ true → SameParts a b
same_parts a b h =
    let both = and_parts ((a.origin == b.origin) && bytes_eq a.producer b.producer) (a.seq == b.seq) h in
    let first = and_parts (a.origin == b.origin) (bytes_eq a.producer b.producer) both.0 in
    record { origin = eqb-true a.origin b.origin first.0; producer = (bytes_eq-Decides a.producer b.producer).0 first.1; seq = eqb-true a.seq b.seq both.1 }

identity_from : (a b : Identity) → SameParts a b → is_identity a b ≡ true
identity_from a b h =
    and_from ((a.origin == b.origin) && bytes_eq a.producer b.producer) (a.seq == b.seq)
    (and_from (a.origin == b.origin) (bytes_eq a.producer b.producer) (eq-eqb a.origin b.origin h.origin) ((bytes_eq-Decides a.producer b.producer).1 h.producer))
    (eq-eqb a.seq b.seq h.seq)

turned : (a b : Identity) → is_identity a b ≡ true → is_identity b a ≡ true
turned a b h = let p = same_parts a b h in identity_from b a (record { origin = sym p.origin; producer = sym p.producer; seq = sym p.seq })

-- ---- a row more

one_test : (a b : Bool) (x y z : Option ℕ) → a ≡ b → (if a then x else z) ≡ (if b then x else if a then y else z)
one_test true true x y z e = refl
one_test false false x y z e = refl
one_test true false x y z e = absurd (false≢true (sym e))
one_test false true x y z e = absurd (false≢true e)

-- what a row more leaves of the answers
pub place_noted : (rows : List Row) (k : Identity) (v : ℕ) (q : Identity) → place_in (insert_entry is_identity rows k v) q ≡ (if is_identity q k then Some v else place_in rows q)
place_noted [] k v q = refl
place_noted (r ∷ rows) k v q = by (is_identity k r.0) refl (place_noted rows k v q)
  where
    right : is_identity k r.0 ≡ true → is_identity q r.0 ≡ is_identity q k
    right e = let p = same_parts k r.0 e in rw (p.origin, p.producer, p.seq) refl

    by : (b : Bool) → is_identity k r.0 ≡ b → place_in (insert_entry is_identity rows k v) q ≡ (if is_identity q k then Some v else place_in rows q)
        → place_in (if b then (r.0, v) ∷ rows else r ∷ insert_entry is_identity rows k v) q ≡ (if is_identity q k then Some v else if is_identity q r.0 then Some r.1 else place_in rows q)
    by true e ih = one_test (is_identity q r.0) (is_identity q k) (Some v) (Some r.1) (place_in rows q) (right e)
    by false e ih =
        ap (λ (o : Option ℕ). if is_identity q r.0 then Some r.1 else o) ih
        ∙ ifs_swap (is_identity q r.0) (is_identity q k) (Some r.1) (Some v) (place_in rows q)
        (λ a b.
        let p = same_parts q r.0 a in let s = same_parts q k b in
        false≢true (sym e ∙ identity_from k r.0 (record { origin = sym s.origin ∙ p.origin; producer = sym s.producer ∙ p.producer; seq = sym s.seq ∙ p.seq })))

-- ---- an entry before those that are noted

-- whether an identity is that of the other
same_way : (a b : Bool) → (a ≡ true → b ≡ true) → (b ≡ true → a ≡ true) → a ≡ b
same_way true b h k = sym (h refl)
same_way false true h k = absurd (false≢true (k refl))
same_way false false h k = refl

ident_of : (e g : Ident) → same_ident e g ≡ is_identity (identity_of g) (identity_of e)
ident_of e g =
    same_way (same_ident e g) (is_identity (identity_of g) (identity_of e)) (turned (identity_of e) (identity_of g)) (turned (identity_of g) (identity_of e))

-- the rows tell the entries from an index on
abbrev pub TellsFrom : List Row → ℕ → List Entry → Type 0
TellsFrom rows i es = (g : Ident) → place_in rows (identity_of g) ≡ place_from i (drop i es) g

pub tells_none : (es : List Entry) (i : ℕ) → drop i es ≡ [] → TellsFrom [] i es
tells_none es i none g = ap (λ (l : List Entry). place_from i l g) (sym none)

pub tells_before : (rows new : List Row) (i : ℕ) (es : List Entry) (e : Entry) → slice_get es i ≡ Some e
    → new ≡ insert_entry is_identity rows (identity_of e.ident) i → TellsFrom rows (i + 1) es → TellsFrom new i es
tells_before rows new i es e at added told g =
    ap (λ (l : List Row). place_in l (identity_of g)) added
    ∙ (place_noted rows (identity_of e.ident) i (identity_of g)
    ∙ (ap (λ (b : Bool). if b then Some i else place_in rows (identity_of g)) (sym (ident_of e.ident g))
    ∙ (ap (λ (o : Option ℕ). if same_ident e.ident g then Some i else o) (told g)
    ∙ ap (λ (l : List Entry). place_from i l g) (sym (drop_here es i e at)))))

-- ---- tables of the clusters, one more

pub tells_pushed : (es : ℕ → List Entry) (tables : List (List Row)) (new : List Row) (c : ℕ) → length tables ≡ c
    → ((y : ℕ) → y < c → Tells (slice_index_or tables y []) (es y)) → Tells new (es c)
    → (y : ℕ) → y < c + 1 → Tells (slice_index_or (tables ++ new ∷ []) y []) (es y)
tells_pushed es tables new c many before told y lt =
    elim (below_or y c) [
      | inl less ↦ subst (λ (rows : List Row). Tells rows (es y)) (sym (get_or_append_left tables (new ∷ []) [] y (omega (arith, less, many)))) (before y less)
      | inr more ↦
          let last : y ≡ c = omega (arith, lt, more) in
          subst (λ (k : ℕ). Tells (slice_index_or (tables ++ new ∷ []) k []) (es k)) (sym last)
          (subst (λ (rows : List Row). Tells rows (es c)) (sym (get_or_push tables new [] c many)) told)
    ]
