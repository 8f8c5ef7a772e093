-- A text's bytes are those of the part that has any.
use Rattle.std.proofs.Common.{◌≡◌, ◌∙◌, ◌<◌, ℕ, List, [], ◌∷◌, ◌++◌, length, ap, refl, sym, arith, append-nil}
use Rattle.geo_base.specs.Texts.{StandsOnce}

pub all_long : (short long : List ℕ) → length short ≡ 0 → long ≡ short ++ long
all_long [] long h = refl
all_long (x ∷ short) long h = absurd (omega (arith, h))

pub all_short : (short long : List ℕ) → StandsOnce short long → 0 < length short → short ≡ short ++ long
all_short short long once some = sym (ap (λ (bytes : List ℕ). short ++ bytes) (once some) ∙ append-nil short)
