-- Where the bytes of a text stand.
use Rattle.std.specs.Prelude.{◌≡◌, ◌<◌, ℕ, List, [], length}

-- where there are short bytes there are no long ones
abbrev pub StandsOnce : List ℕ → List ℕ → Type 0
StandsOnce short long = 0 < length short → long ≡ []
