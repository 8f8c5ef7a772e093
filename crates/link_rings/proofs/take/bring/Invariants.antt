use Rattle.std.proofs.Common.{◌≡◌, List, [], length}
use Rattle.std.specs.Prelude.{None, slice_get}
use Rattle.rtrb.specs.Ring.{known_items, received}
use Rattle.wire_ends.specs.declared.packet.WirePacket.{WirePacket}
use Rattle.wire_ends.specs.Looks.{Stays}
use Rattle.link_rings.specs.Gathering.{Gives, ShowsOne}
use Rattle.link_rings.proofs.take.bring.Given as goal

abbrev pub invariant-pieces : goal.invariant-pieces
invariant-pieces l =
    (l.waiting ≡ None) × (length (known_items l.consumer) ≡ l.left)
    × ((taken : List WirePacket) → Gives (received l.initial.consumer) taken l.initial.gathered [] → Gives (received l.consumer) taken l.gathered [])
    × ((taken : List WirePacket) → Gives (received l.initial.consumer) taken l.initial.gathered [] → ShowsOne (received l.initial.consumer) (received l.consumer) taken)
    × Stays (slice_get l.initial.gathered.whole 0) (slice_get l.gathered.whole 0)

abbrev pub decreases-pieces : goal.decreases-pieces
decreases-pieces l = l.left
