-- Metadata of no name and no other byte is what its constructor of the usual form makes.
use Rattle.std.proofs.Common.{◌≡◌, ◌∙◌, ℕ, List, [], ◌∷◌, length, refl, arith}
use Rattle.std.specs.Prelude.{Option}
use Rattle.geo_base.specs.Metadata.{Metadata}

none : {X : Type 0} (xs : List X) → length xs ≡ 0 → xs ≡ []
none [] h = refl
none (x ∷ xs) h = absurd (omega (arith, h))

pub usual_is : (m : Metadata) (time : ℕ) (key : Option (List ℕ)) (names : List (List ℕ)) (rest : List ℕ) → length names ≡ 0 → length rest ≡ 0
    → m ≡ record { publish_time = time; key = key; names = []; rest = [] } → m ≡ record { publish_time = time; key = key; names = names; rest = rest }
usual_is m time key names rest no_name no_byte is = is ∙ rw (none names no_name, none rest no_byte) refl
