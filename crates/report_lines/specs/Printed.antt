-- What a terminal shows as itself.
use Rattle.std.specs.Prelude.{ℕ, nat_le, Bool, ◌&&◌}

-- a space, or what ASCII prints
abbrev pub is_shown : ℕ → Bool
is_shown b = nat_le 32 b && nat_le b 126
