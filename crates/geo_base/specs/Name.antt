-- A name of a cluster, a topic, a subscription or a client.
use Rattle.std.specs.Prelude.{◌≡◌, ℕ, ◌≤◌, nat_lt, nat_le, ◌==◌, Bool, false, ◌&&◌, ◌||◌, List, length}
use Rattle.std.specs.List.{list_all}

-- a lowercase letter, a digit or an underscore (own: a script's words need no quotes)
abbrev pub name_byte : ℕ → Bool
name_byte b = (nat_le 97 b && nat_le b 122) || (nat_le 48 b && nat_le b 57) || (b == 95)

-- the most bytes of a name (own: a script and a report stay readable)
abbrev pub most_name_bytes : ℕ
most_name_bytes = 16

-- a name: 1 to 16 such bytes
abbrev pub is_name : List ℕ → Bool
is_name n = nat_lt 0 (length n) && nat_le (length n) most_name_bytes && list_all name_byte n

-- short enough, and a byte of it is none of a name
abbrev pub HasBadByte : List ℕ → Type 0
HasBadByte n = (length n ≤ 16) × (list_all name_byte n ≡ false)
