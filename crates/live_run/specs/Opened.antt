-- The ends of a node's links before anything was sent.
use Rattle.std.specs.Prelude.{◌≡◌, ℕ, List, []}
use Rattle.std.specs.List.{AllByRecursion}
use Rattle.link_rings.specs.declared.either.RingEnd.{RingEnd}
use Rattle.link_rings.specs.declared.either.RingEnd.TheVariants as end
use Rattle.link_rings.specs.Gathering.{nothing}
use Rattle.link_rings.specs.Rings.{Sending, Taking}
use Rattle.log_parts.specs.declared.table.EndRow.{EndRow}

-- each ring has so many places, and a part of a frame so many bytes at most (own)
abbrev pub ring_places : ℕ
ring_places = 1024

abbrev pub part_bytes : ℕ
part_bytes = 8192

abbrev pub opened_send : Sending
opened_send = record { pieces = []; places = ring_places; most = part_bytes; looks = 0 }

abbrev pub opened_take : Taking
opened_take = record { received = []; known = []; waiting = []; gathered = nothing; most = part_bytes; looks = 0; taken = [] }

-- a row has the end of one ring that sends, and the end of one that takes
abbrev pub IsOpened : EndRow RingEnd → Type 0
IsOpened r = (r.send ≡ end.Send opened_send) × (r.take ≡ end.Take opened_take)

abbrev pub AreOpened : List (EndRow RingEnd) → Type 0
AreOpened rs = AllByRecursion (λ (r : EndRow RingEnd). IsOpened r) rs
