-- One step of a loop over clusters or over positions.
use Rattle.std.proofs.Common.{◌≡◌, suc, ◌-◌, false, List, [], ◌∷◌, length, arith, ap, refl}
use Rattle.std.specs.Prelude.{◌≢◌, None, slice_get}
use Rattle.geo_base.specs.declared.marker.ClusterPosition.{ClusterPosition}
use Rattle.geo_base.specs.declared.position.Position.{Position}
use Rattle.geo_base.specs.Audit.{same_pairs}
use Rattle.geo_base.specs.TraceItems.{same_positions}
use Rattle.audit.specs.Named.{only_of}
pub use Rattle.geo_base.proofs.Lists.{range_first as one_cluster}

pub pairs_differ : (ps qs : List ClusterPosition) → length ps ≢ length qs → same_pairs ps qs ≡ false
pairs_differ [] [] differ = absurd (differ refl)
pairs_differ [] (q ∷ qs) differ = refl
pairs_differ (p ∷ ps) [] differ = refl
pairs_differ (p ∷ ps) (q ∷ qs) differ = let rest = pairs_differ ps qs (λ e. differ (ap suc e)) in grind (arith, rest)

-- ---- the one position of some

pub one_only : (ps : List Position) → length ps ≡ 1 → only_of ps ≡ slice_get ps 0
one_only [] one = absurd (omega (arith, one))
one_only (p ∷ []) one = refl
one_only (p ∷ q ∷ ps) one = absurd (omega (arith, one))

pub not_one : (ps : List Position) → length ps ≢ 1 → only_of ps ≡ None
not_one [] other = refl
not_one (p ∷ []) other = absurd (other refl)
not_one (p ∷ q ∷ ps) other = refl

pub positions_differ : (ps qs : List Position) → length ps ≢ length qs → same_positions ps qs ≡ false
positions_differ [] [] differ = absurd (differ refl)
positions_differ [] (q ∷ qs) differ = refl
positions_differ (p ∷ ps) [] differ = refl
positions_differ (p ∷ ps) (q ∷ qs) differ = let rest = positions_differ ps qs (λ e. differ (ap suc e)) in grind (arith, rest)
