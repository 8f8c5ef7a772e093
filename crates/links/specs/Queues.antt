-- Links as they are kept: the packets that are not taken yet, in the order in which they were sent.
use Rattle.std.specs.Prelude.{◌≡◌, ℕ, ◌+◌, ◌-◌, ◌*◌, ◌&&◌, nat_lt, if◌then◌else◌, List, [], ◌∷◌, ◌++◌, length, map, take, drop, replicate, Option, Some, None, slice_get, slice_set, slice_index_or}
use Rattle.links.specs.declared.name.LinkName.{LinkName}
use Rattle.links.specs.declared.name.LinkName.TheVariants as name
use Rattle.links.specs.declared.name.Node.{Node}
use Rattle.links.specs.declared.port.Port.{Port}
use Rattle.geo_base.specs.declared.packet.WireOut.{WireOut}
use Rattle.wire_ends.specs.declared.packet.WirePacket.{WirePacket}
use Rattle.links.specs.Names.{sends_on}

-- ---- one link

abbrev pub Queue : Type 0
Queue = List WirePacket

abbrev pub next_in : Queue → Option WirePacket
next_in q = slice_get q 0

abbrev pub after_next : Queue → Queue
after_next q = drop 1 q

abbrev pub with_last : Queue → WirePacket → Queue
with_last q p = q ++ p ∷ []

abbrev pub without_last : Queue → Queue
without_last q = take (length q - 1) q

abbrev pub emptied : List Queue → List Queue
emptied qs = map (λ (q : Queue). []) qs

-- ---- all links

-- The links of a world in one list. They stand in rows, as the machine's tables do, each of a row to or from another cluster: first
-- the forward links by the broker that sends on them, then those back by the same brokers, then those to a broker and those to a
-- client, by clients.
pub record WireLinks : Type 0 where
  pub brokers : ℕ
  pub clusters : ℕ
  pub clients : ℕ
  pub queues : List Queue

-- how many rows there are
abbrev pub row_count : (brokers clients : ℕ) → ℕ
row_count brokers clients = brokers + (brokers + (clients + clients))

abbrev pub empty_links : (topics clusters clients : ℕ) → WireLinks
empty_links topics clusters clients = record {
  brokers = topics * clusters;
  clusters = clusters;
  clients = clients;
  queues = replicate (row_count (topics * clusters) clients * clusters) [];
}

-- the number of the link in a row of so many that stand after others, and of none where there is no such link
abbrev pub port_in : WireLinks → (before rows row column : ℕ) → ℕ
port_in ls before rows row column = if nat_lt row rows && nat_lt column ls.clusters then (before + row) * ls.clusters + column else length ls.queues

-- the port of a link: its number among all
unfoldable pub port_of : WireLinks → LinkName → ℕ
port_of ls (name.Forward t x y) = port_in ls 0 ls.brokers (t * ls.clusters + x) y
port_of ls (name.Back t x y) = port_in ls ls.brokers ls.brokers (t * ls.clusters + x) y
port_of ls (name.ToBroker c x) = port_in ls (ls.brokers + ls.brokers) ls.clients c x
port_of ls (name.ToClient c x) = port_in ls (ls.brokers + (ls.brokers + ls.clients)) ls.clients c x

-- and of the link that an event takes from; of no link where it takes from none
abbrev pub port_at : WireLinks → Option LinkName → ℕ
port_at ls None = length ls.queues
port_at ls (Some k) = port_of ls k

abbrev pub queue_in : WireLinks → ℕ → Queue
queue_in ls port = slice_index_or ls.queues port []

abbrev pub with_queue_in : WireLinks → ℕ → Queue → WireLinks
with_queue_in ls port q = record ls { queues = slice_set ls.queues port q }

abbrev pub queue_at : WireLinks → LinkName → Queue
queue_at ls k = queue_in ls (port_of ls k)

abbrev pub with_queue : WireLinks → LinkName → Queue → WireLinks
with_queue ls k q = with_queue_in ls (port_of ls k) q

-- the packet that is taken next from a link, if there is one
abbrev pub next_at : WireLinks → LinkName → Option WirePacket
next_at ls k = next_in (queue_at ls k)

abbrev pub stamp_of : Option WirePacket → ℕ
stamp_of None = 0
stamp_of (Some p) = p.stamp

-- a port is where the link stands that an event takes from
abbrev pub IsFound : WireLinks → Port → Type 0
IsFound ls port = port.number ≡ port_at ls port.link

-- the packet that is taken next at a port, if there is one, and the links without it
abbrev pub packet_in : WireLinks → Port → Option WirePacket
packet_in ls port = next_in (queue_in ls port.number)

abbrev pub taken_in : Port → WireLinks → WireLinks
taken_in port ls = with_queue_in ls port.number (after_next (queue_in ls port.number))

-- without the packet that is taken next from a link
abbrev pub taken_at : LinkName → WireLinks → WireLinks
taken_at k ls = with_queue ls k (after_next (queue_at ls k))

-- the same of an event that may take from no link
abbrev pub packet_on : WireLinks → Option LinkName → Option WirePacket
packet_on ls None = None
packet_on ls (Some k) = next_at ls k

abbrev pub taken_from : Option LinkName → WireLinks → WireLinks
taken_from None ls = ls
taken_from (Some k) ls = taken_at k ls

abbrev pub all_discarded : WireLinks → WireLinks
all_discarded ls = record ls { queues = emptied ls.queues }

-- ---- sending

abbrev pub stamped : ℕ → WireOut → WirePacket
stamped stamp o = record { session = o.session; stamp = stamp; frame = o.frame }

abbrev pub sent_on : LinkName → WirePacket → WireLinks → WireLinks
sent_on k p ls = with_queue ls k (with_last (queue_at ls k) p)

-- all that a node sends in an event of this stamp, in order
abbrev pub delivered : Node → ℕ → List WireOut → WireLinks → WireLinks
delivered from stamp [] ls = ls
delivered from stamp (o ∷ os) ls = delivered from stamp os (sent_on (sends_on from o.to) (stamped stamp o) ls)

-- how many bytes the frames of it have
abbrev pub bytes_of : List WireOut → ℕ
bytes_of [] = 0
bytes_of (o ∷ os) = length o.frame + bytes_of os
