-- What a broker appends: entries that came and are no duplicates, and markers of its own.
use Rattle.std.specs.Prelude.{ℕ, if◌then◌else◌, List, [], ◌∷◌, Option, Some, None}
use Rattle.geo_base.specs.Types.{Cut, Entry, Marker, Position, Targets, Write}
use Rattle.geo_base.specs.Types.content
use Rattle.geo_base.specs.Types.marker
use Rattle.geo_base.specs.Types.targets
use Rattle.geo_base.specs.Types.write
use Rattle.geo_base.specs.Broker.{Broker, Site}
use Rattle.geo_base.specs.SnapshotBuilder.{named}
use Rattle.geo_base.specs.Cache.{last_passed}
use Rattle.geo_base.specs.Cursor.{mark}
use Rattle.geo_base.specs.Entry.{marker_producer}
use Rattle.geo_base.specs.Position.{no_position}
use Rattle.geo_base.specs.Subscription.{Subscription, sought, with_acks}
use Rattle.geo_base.specs.Topic.{accepts, next_marker, next_position}

-- an entry that came is stored where it is accepted
abbrev pub storing : Broker → Entry → List Write
storing b e = if accepts b.entries e.ident then write.Append e ∷ [] else []

-- its receipt names its position, or no_position where it is a duplicate
abbrev pub receipt_position : ℕ → Broker → Entry → Option Position
receipt_position per b e = Some (if accepts b.entries e.ident then next_position per b.ledgers else no_position)

-- a marker that this cluster writes, for the targets of these names
abbrev pub own_marker : Site → Broker → Marker → Targets → List (List ℕ) → Entry
own_marker h b m to names = record {
  ident = record { origin = h.own; producer = marker_producer; seq = next_marker h.own b.entries };
  content = content.Marked m;
  to = to;
  meta = record { publish_time = 0; key = None; names = names; rest = [] };
  payload = [];
}

-- tells all clusters that a subscription has passed a cut (PIP-33's ReplicatedSubscriptionsUpdate)
abbrev pub update_marker : Site → Broker → List ℕ → Cut → Entry
update_marker h b n cut = own_marker h b (marker.Update n (named cut)) targets.All []

abbrev pub appending_update : Site → Broker → List ℕ → Option Cut → List Write
appending_update h b n None = []
appending_update h b n (Some cut) = write.Append (update_marker h b n cut) ∷ []

-- what follows a write of a subscription's cursor, s being the subscription with that write done: an update where the
-- mark-delete has passed a cached snapshot, and only for a replicated subscription (PIP-33)
abbrev pub update_after : Site → Broker → Subscription → List Write
update_after h b s = appending_update h b s.name (if s.replicated then last_passed (mark s.cursor) s.cache else None)

-- what a write makes of a subscription's cursor; no other write than these two is one of a cursor
abbrev pub with_write : Write → Subscription → Subscription
with_write (write.Acks n is) s = with_acks is s
with_write (write.Seek n i) s = sought i s
with_write w s = s

-- a write of a subscription's cursor with what follows it. An ACK, an update that another cluster sent, an offer and a seek
-- all write a cursor in this way, so that no move of a mark-delete goes untold
abbrev pub cursor_write : Site → Broker → Subscription → Write → List Write
cursor_write h b s w = w ∷ update_after h b (with_write w s)
