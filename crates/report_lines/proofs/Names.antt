-- A target list's names, written from the first to the last.
use Rattle.std.proofs.Common.{◌≡◌, ℕ, ◌+◌, ◌<◌, Bool, true, false, if◌then◌else◌, List, [], ◌∷◌, ◌++◌, length, drop, get_or, refl, sym, ap, append_assoc, add-one, drop-cons}
use Rattle.std.proofs.lemmas.List.{append-nil}
use Rattle.geo_base.specs.declared.entry.Targets.TheVariants as targets
use Rattle.geo_base.specs.Client.{target_names}
use Rattle.geo_base.specs.Entry.{goes_to}
use Rattle.geo_base.specs.Report.{commas}

-- what names add to those before them, of which there may be none
abbrev pub commas_after : Bool → List (List ℕ) → List ℕ
commas_after true ns = commas ns
commas_after false [] = []
commas_after false (n ∷ ns) = 44 ∷ commas (n ∷ ns)

abbrev pub with_comma : Bool → List ℕ → List ℕ
with_comma is_first n = if is_first then n else 44 ∷ n

commas_more : (n : List ℕ) (ns : List (List ℕ)) → commas (n ∷ ns) ≡ n ++ commas_after false ns
commas_more n [] = sym (append-nil n)
commas_more n (m ∷ ns) = refl

commas_after_more : (is_first : Bool) (n : List ℕ) (ns : List (List ℕ)) → commas_after is_first (n ∷ ns) ≡ with_comma is_first n ++ commas_after false ns
commas_after_more true n ns = commas_more n ns
commas_after_more false n ns = ap (λ xs. 44 ∷ xs) (commas_more n ns)

-- one more cluster, which the list names or not
module _ (bits i : ℕ) (xs : List (List ℕ)) (d : List ℕ) (is_first : Bool) (within : i < length xs) where
  pub with_name : (name text new whole : List ℕ) → goes_to i (targets.Only bits) ≡ true → name ≡ get_or xs i d → new ≡ text ++ with_comma is_first name
      → text ++ commas_after is_first (target_names i (targets.Only bits) (drop i xs)) ≡ whole
      → new ++ commas_after false (target_names (i + 1) (targets.Only bits) (drop (i + 1) xs)) ≡ whole
  with_name name text new whole named here is before = rw (is, here, append_assoc, add-one, ← commas_after_more) (rw (drop-cons xs i d, named, add-one) at before)

  pub without_name : (text whole : List ℕ) → goes_to i (targets.Only bits) ≡ false
      → text ++ commas_after is_first (target_names i (targets.Only bits) (drop i xs)) ≡ whole
      → text ++ commas_after is_first (target_names (i + 1) (targets.Only bits) (drop (i + 1) xs)) ≡ whole
  without_name text whole named before = rw add-one (rw (drop-cons xs i d, named, add-one) at before)
