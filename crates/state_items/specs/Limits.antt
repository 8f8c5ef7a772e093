-- The limits of a state file.
use Rattle.std.specs.Prelude.{ℕ}

-- the greatest count: of events, of rounds, of a session, of a connection, of a client's receipts (own: numbers of a run stay far
-- below 2 ^ 63, so that none comes to its end after it)
abbrev pub most_count : ℕ
most_count = 4294967296
