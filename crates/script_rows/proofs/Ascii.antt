-- A name's bytes are ASCII, so they are a text.
use Rattle.std.proofs.Common.{◌≡◌, ℕ, nat_lt, true, List, length}
use Rattle.std.specs.List.{list_all}
use Rattle.std.specs.Str.{IsUtf8}
use Rattle.std.proofs.lemmas.Bool.{and_parts}
use Rattle.geo_base.specs.Name.{name_byte}
use Rattle.geo_base.proofs.Names.{name_utf8}
use Rattle.script_rows.specs.NameWords.{has_name_bytes}

pub name_bytes_utf8 : (w : List ℕ) → has_name_bytes w ≡ true → IsUtf8 w
name_bytes_utf8 w is = name_utf8 w (and_parts (nat_lt 0 (length w)) (list_all name_byte w) is).1
