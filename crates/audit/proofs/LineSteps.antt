-- One step of a loop over the clusters of a snapshot.
use Rattle.std.proofs.Common.{◌≡◌, ℕ, ◌+◌, ◌-◌, ◌<◌, Bool, true, false, List, ap, refl, ◌∙◌}
use Rattle.std.specs.Prelude.{◌==◌, ◌&&◌, ◌||◌, Option}
use Rattle.std.specs.List.{list_all, range_with_len}
use Rattle.geo_base.specs.declared.marker.ClusterPosition.{ClusterPosition}
use Rattle.geo_base.specs.declared.position.Position.{Position}
use Rattle.geo_base.specs.Audit.{covers, index_named, position_named}
use Rattle.geo_base.specs.Mirror.{Mirrors, mirror_at, mirror_number}
use Rattle.geo_base.specs.Setup.{Setup}
use Rattle.audit.specs.Appends.{covers_other}
use Rattle.geo_base.proofs.Lists.{range_first}

-- what a cut asks of one cluster
abbrev pub is_cut_at : Setup → Mirrors → ℕ → ℕ → List ClusterPosition → ℕ → ℕ → Bool
is_cut_at s a t x remote l y = (x == y) || covers x (mirror_at s a t x) (mirror_at s a t y) l (index_named (mirror_at s a t y) (position_named y remote))

pub own_cut : (s : Setup) (a : Mirrors) (t x : ℕ) (remote : List ClusterPosition) (l y : ℕ) → (x == y) ≡ true → is_cut_at s a t x remote l y ≡ true
own_cut s a t x remote l y own = rw own refl

pub other_cut : (s : Setup) (a b : Mirrors) (t x : ℕ) (remote : List ClusterPosition) (l y here there : ℕ) (o : Option Position) (r : Bool) → b ≡ a → here ≡ mirror_number s t x
    → there ≡ mirror_number s t y → o ≡ position_named y remote → (x == y) ≡ false → r ≡ covers_other b (record { own = x; here = here; there = there }) l o
    → is_cut_at s a t x remote l y ≡ r
other_cut s a b t x remote l y here there o r same at_here at_there named other is =
    rw other (rw is (rw same (rw at_here (rw at_there (rw named refl)))))

pub cut_goes_on : (p : ℕ → Bool) (y n : ℕ) → y < n → p y ≡ true → list_all p (range_with_len y (n - y)) ≡ list_all p (range_with_len (y + 1) (n - (y + 1)))
cut_goes_on p y n lt holds = range_first p y n lt ∙ ap (λ (b : Bool). b && list_all p (range_with_len (y + 1) (n - (y + 1)))) holds

pub cut_ends : (p : ℕ → Bool) (y n : ℕ) → y < n → p y ≡ false → list_all p (range_with_len y (n - y)) ≡ false
cut_ends p y n lt fails = range_first p y n lt ∙ ap (λ (b : Bool). b && list_all p (range_with_len (y + 1) (n - (y + 1)))) fails
