-- Texts of which each byte passes a test, cut at a byte that does not.
use Rattle.std.proofs.Common.{◌≡◌, ℕ, ◌==◌, Bool, true, false, List, [], ◌∷◌, ◌++◌, get_or, All, refl, ap, ◌∙◌, subst}
use Rattle.std.specs.List.{join_with_byte, list_all}
use Rattle.std.proofs.lemmas.Bool.{both_ways, eq-eqb, ne_eqb}
use Rattle.std.proofs.lemmas.List.Elements.{All-from_get_or}
use Rattle.std.proofs.lemmas.List.Splits.{slice_split_at, slice_split_none}
use Rattle.script_rows.specs.NameWords.{Word, cut_by}
use Rattle.script_rows.proofs.Back.{passes}
use Rattle.world_laws.proofs.Replicating.Effects.{Each}
pub use Rattle.geo_base.proofs.Lists.{all_weaker as weaker}

-- a byte does not stand in a text
abbrev pub Lacks : ℕ → Word → Type 0
Lacks k w = All (λ b. (b == k) ≡ false) w

pub lacks : (p : ℕ → Bool) (k : ℕ) → p k ≡ false → (w : Word) → list_all p w ≡ true → Lacks k w
lacks p k other w all =
    All-from_get_or (λ b. (b == k) ≡ false) w 0 (λ i within. apart (get_or w i 0) (passes p w i 0 all within))
  where
    apart : (b : ℕ) → p b ≡ true → (b == k) ≡ false
    apart b is = ne_eqb b k (λ same. both_ways (p k) other (subst (λ (c : ℕ). p c ≡ true) same is))

-- words without a byte are cut again where they are joined by it
pub cut_joined : (k : ℕ) (w : Word) (ws : List Word) → Lacks k w → Each (Lacks k) ws → cut_by k (join_with_byte k (w ∷ ws)) ≡ w ∷ ws
cut_joined k w [] first rest = slice_split_none (λ b. b == k) w first
cut_joined k w (x ∷ xs) first rest =
    slice_split_at (λ b. b == k) w k (join_with_byte k (x ∷ xs)) first (eq-eqb k k refl) ∙ ap (λ (ws : List Word). w ∷ ws) (cut_joined k x xs rest.0 rest.1)

-- so they are in front of a text that may have the byte
pub cut_front : (k : ℕ) (w : Word) (ws : List Word) (text : List ℕ) → Lacks k w → Each (Lacks k) ws
    → cut_by k (join_with_byte k (w ∷ (ws ++ text ∷ []))) ≡ w ∷ (ws ++ cut_by k text)
cut_front k w [] text first rest = slice_split_at (λ b. b == k) w k text first (eq-eqb k k refl)
cut_front k w (x ∷ xs) text first rest =
    slice_split_at (λ b. b == k) w k (join_with_byte k (x ∷ (xs ++ text ∷ []))) first (eq-eqb k k refl)
    ∙ ap (λ (ws : List Word). w ∷ ws) (cut_front k x xs text rest.0 rest.1)
