-- The last of some positions.
use Rattle.std.proofs.Common.{◌≡◌, ℕ, zero, suc, ◌-◌, ◌<◌, ◌≤◌, true, List, [], ◌∷◌, length, get_or, arith, refl}
use Rattle.geo_base.specs.declared.position.Position.{Position}
use Rattle.geo_base.specs.Audit.{is_above}
use Rattle.geo_base.specs.Position.{position_lt}

pub above_none : (ps : List Position) (p : Position) → length ps ≤ 0 → is_above ps p ≡ true
above_none [] p none = refl
above_none (q ∷ ps) p none = absurd (omega (arith, none))

above_at : (ps : List Position) (p d : Position) (n : ℕ) → length ps ≡ suc n → is_above ps p ≡ position_lt (get_or ps n d) p
above_at [] p d n e = absurd (omega (arith, e))
above_at (q ∷ []) p d zero e = refl
above_at (q ∷ []) p d (suc n) e = absurd (omega (arith, e))
above_at (q ∷ r ∷ ps) p d zero e = absurd (omega (arith, e))
above_at (q ∷ r ∷ ps) p d (suc n) e = above_at (r ∷ ps) p d n (omega (arith, e))

pub above_last : (ps : List Position) (p d : Position) → 0 < length ps → is_above ps p ≡ position_lt (get_or ps (length ps - 1) d) p
above_last ps p d some = above_at ps p d (length ps - 1) (omega (arith, some))
