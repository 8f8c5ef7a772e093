-- Each entry that a cluster stored first is small enough for a link, so that a receiving side refuses none of them.
use Rattle.std.proofs.Common.{◌≡◌, ℕ, ◌≤◌}
use Rattle.std.specs.Prelude.{Some, slice_get}
use Rattle.world_laws.proofs.Types.{Entry}
use Rattle.geo_base.specs.Broker.{Broker}
use Rattle.geo_base.specs.Setup.{Setup}
use Rattle.geo_base.specs.Sizes.{entry_size, most_entry_size}
use Rattle.geo_base.specs.World.{World}
use Rattle.world_laws.proofs.Induction.Layers.{Everywhere}

-- each own entry of a topic at x is
abbrev pub FitsAt : Setup → ℕ → Broker → Type 0
FitsAt s x b = (i : ℕ) (e : Entry) → slice_get b.entries i ≡ Some e → e.ident.origin ≡ x → entry_size s.clusters e ≤ most_entry_size

abbrev pub Fits : Setup → World → Type 0
Fits s w = Everywhere s (FitsAt s) w
