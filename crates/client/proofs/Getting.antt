-- What a receipt changes at a client.
use Rattle.std.proofs.Common.{◌≡◌, ℕ, ◌<◌, true, List, ◌++◌, length, take, drop, get_or, refl, drop-cons}
use Rattle.std.specs.Prelude.{remove}
use Rattle.geo_base.specs.Getting.{publishes, without_seq}
use Rattle.geo_base.specs.Setup.{Declared}

-- the first publish of a sequence id leaves its place
pub without_publish_at : (d : Declared) (is : List ℕ) (n at : ℕ) → at < length is → publishes d n (get_or is at 0) ≡ true
    → without_seq d is n ≡ take at is ++ without_seq d (drop at is) n → without_seq d is n ≡ remove is at
without_publish_at d is n at within found rest = rw (rest, drop-cons is at 0, found) refl
