-- Words of a script, and the parts between separators.
use Rattle.std.specs.Prelude.{ℕ, nat_lt, ◌==◌, Bool, ◌&&◌, if◌then◌else◌, List, length, Option, Some, None}
use Rattle.std.specs.List.{list_all, slice_split}
use Rattle.geo_base.specs.Name.{name_byte}

abbrev pub Word : Type 0
Word = List ℕ

-- what stands between the bytes that are `at`: one part more than there are of it
abbrev pub cut_by : ℕ → List ℕ → List Word
cut_by at bytes = slice_split (λ b. b == at) bytes

-- the names between commas
abbrev pub listed : Word → List Word
listed w = cut_by 44 w

-- a value, where a test passes
abbrev pub given : {A : Type 0} → Bool → A → Option A
given test a = if test then Some a else None

-- the bytes are those of a name, of whatever length
abbrev pub has_name_bytes : Word → Bool
has_name_bytes w = nat_lt 0 (length w) && list_all name_byte w

abbrev pub name_of : Word → Option Word
name_of w = given (has_name_bytes w) w

-- a name has at most 16 bytes (own)
abbrev pub is_long : Word → Bool
is_long w = nat_lt 16 (length w)
