-- Keys of slots, by which these are looked for.
use Rattle.std.specs.Prelude.{Bool, List}
use Rattle.std.specs.List.{list_any}
use Rattle.std.specs.Ordering.{is_eq, nat_cmp, ordering_then}
use Rattle.std.specs.declared.cmp.Ordering.{Ordering}
use Rattle.client.specs.declared.held.index.SlotKey.{SlotKey}

-- by the two numbers, and then by the slot
abbrev pub key_cmp : SlotKey → SlotKey → Ordering
key_cmp a b = ordering_then (nat_cmp a.major b.major) (ordering_then (nat_cmp a.minor b.minor) (nat_cmp a.slot b.slot))

abbrev pub same_key : SlotKey → SlotKey → Bool
same_key a b = is_eq (key_cmp a b)

-- whether a key is among others
abbrev pub has : List SlotKey → SlotKey → Bool
has ks k = list_any (same_key k) ks
