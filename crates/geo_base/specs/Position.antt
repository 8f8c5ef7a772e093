-- A position: ledger first, then the entry in it (MessageIdData).
use Rattle.std.specs.Prelude.{nat_lt, ◌==◌, Bool, not, ◌&&◌, ◌||◌, if◌then◌else◌}
use Rattle.geo_base.specs.Types.{Position}

-- the position of what stands no_position, -1:-1 as 64-bit numbers: the receipt of a duplicate has it, as Pulsar's brokers answer one
abbrev pub no_position : Position
no_position = record { ledger = 18446744073709551615; entry = 18446744073709551615 }

abbrev pub position_lt : Position → Position → Bool
position_lt p q = nat_lt p.ledger q.ledger || ((p.ledger == q.ledger) && nat_lt p.entry q.entry)

abbrev pub position_le : Position → Position → Bool
position_le p q = not (position_lt q p)

abbrev pub same_position : Position → Position → Bool
same_position p q = (p.ledger == q.ledger) && (p.entry == q.entry)

abbrev pub later_position : Position → Position → Position
later_position p q = if position_lt p q then q else p
