-- Which messages are settled on a subscription, over a run so far at all clusters: acknowledged by a client, passed over by a
-- creation at Latest, or passed over by an operator's seek. It is told from what came, not from what a broker makes of it: from
-- the packet of a client or the seek, the consumer that it names, and the topic and the subscription before the event. No other
-- event settles anything. The set only grows, and no part of the program keeps it.
use Rattle.std.specs.Prelude.{◌≡◌, ℕ, ◌+◌, nat_lt, ◌==◌, Bool, true, false, not, ◌&&◌, if◌then◌else◌, List, [], ◌∷◌, ◌++◌, length, find, Option, Some, None, is_none, is_some, slice_get}
use Rattle.std.specs.List.{list_any, range_with_len}
use Rattle.std.specs.Str.{bytes_eq}
use Rattle.geo_base.specs.Types.{AckKind, Entry, Event, Frame, Ident, Packet, Position, Session, Step, SubKind}
use Rattle.geo_base.specs.Types.ack_kind
use Rattle.geo_base.specs.Types.event
use Rattle.geo_base.specs.Types.frame
use Rattle.geo_base.specs.Types.step
use Rattle.geo_base.specs.Types.sub_kind
use Rattle.geo_base.specs.Broker.{Broker, session_at, sub_named}
use Rattle.geo_base.specs.Entry.{is_data, same_ident}
use Rattle.geo_base.specs.Link.{next_packet}
use Rattle.geo_base.specs.Moments.{Moment, world_between}
use Rattle.geo_base.specs.Name.{is_name}
use Rattle.geo_base.specs.Planned.{has_sub}
use Rattle.geo_base.specs.Run.{Limits, Ran, no_limits, steps}
use Rattle.geo_base.specs.Setup.{Setup, declared_at, sub_name, topic_name}
use Rattle.geo_base.specs.Subscribing.{most_subs}
use Rattle.geo_base.specs.Subscription.{Subscription, has_consumer, is_attached}
use Rattle.geo_base.specs.Topic.{index_of}
use Rattle.geo_base.specs.World.{ToBroker, World, link_at, opening_world, topic_at}

-- the identities of the messages that are settled so far, by topic and by the subscription's name
abbrev pub SettledSoFar : Type 0
SettledSoFar = ℕ → List ℕ → List Ident

abbrev pub IsSettled : SettledSoFar → ℕ → List ℕ → Entry → Type 0
IsSettled settled t n e = list_any (same_ident e.ident) (settled t n) ≡ true

-- the n entries from the first on
abbrev pub first_indexes : ℕ → List ℕ
first_indexes n = range_with_len 0 n

-- the index of a position, all up to it, all below it: none where nothing is stored there
abbrev pub at_index : Option ℕ → List ℕ
at_index None = []
at_index (Some i) = i ∷ []

abbrev pub up_to_index : Option ℕ → List ℕ
up_to_index None = []
up_to_index (Some i) = first_indexes (i + 1)

abbrev pub below_index : Option ℕ → List ℕ
below_index None = []
below_index (Some i) = first_indexes i

abbrev pub at_positions : List ℕ → List Position → List ℕ
at_positions ledgers [] = []
at_positions ledgers (p ∷ ps) = at_index (index_of ledgers p) ++ at_positions ledgers ps

-- only these kinds can be acknowledged cumulatively (Pulsar manual)
abbrev pub serves_one : SubKind → Bool
serves_one sub_kind.Exclusive = true
serves_one sub_kind.Failover = true
serves_one sub_kind.Shared = false
serves_one sub_kind.KeyShared = false

-- an ACK names positions: one by one, or the one up to which all is acknowledged
abbrev pub named_by_ack : List ℕ → SubKind → AckKind → List Position → List ℕ
named_by_ack ledgers kind ack_kind.Individual ps = at_positions ledgers ps
named_by_ack ledgers kind ack_kind.Cumulative [] = []
named_by_ack ledgers kind ack_kind.Cumulative (p ∷ []) = if serves_one kind then up_to_index (index_of ledgers p) else []
named_by_ack ledgers kind ack_kind.Cumulative (p ∷ q ∷ ps) = []

-- on the subscription of the consumer that it names
abbrev pub acked_on : List ℕ → Broker → AckKind → List Position → Option Subscription → List ℕ
acked_on n b kind ps None = []
acked_on n b kind ps (Some v) = if bytes_eq v.name n then named_by_ack b.ledgers v.kind kind ps else []

-- a SUBSCRIBE of client c creates the subscription m: it is of this topic, m is a name and is not here yet, the topic has fewer
-- than the most subscriptions, and the client has no consumer here (own: it has one at most)
abbrev pub is_created : Broker → List ℕ → ℕ → List ℕ → List ℕ → Bool
is_created b topic c to m =
    bytes_eq to topic && is_name m && is_none (sub_named b.subs m) && nat_lt (length b.subs) most_subs && not (list_any (is_attached c) b.subs)

-- by a command of client c in its open session, on subscription n
abbrev pub settled_by_command : List ℕ → Broker → List ℕ → ℕ → Frame → List ℕ
settled_by_command n b topic c (frame.Ack id kind ps) = acked_on n b kind ps (find (has_consumer c id) b.subs)
settled_by_command n b topic c (frame.Subscribe to m kind id request consumer earliest replicated) =
    if bytes_eq m n && not earliest && is_created b topic c to m then first_indexes (length b.entries) else []
settled_by_command n b topic c f = []

abbrev pub is_session : ℕ → Option Session → Bool
is_session number None = false
is_session number (Some s) = s.number == number

abbrev pub settled_by_packet : List ℕ → Broker → List ℕ → ℕ → Option Packet → List ℕ
settled_by_packet n b topic c None = []
settled_by_packet n b topic c (Some p) = if is_session p.session (session_at b c) then settled_by_command n b topic c p.frame else []

-- by a seek on a subscription that is here: to a stored position, or to the end
abbrev pub settled_by_seek : Broker → Option Position → Option Subscription → List ℕ
settled_by_seek b to None = []
settled_by_seek b None (Some v) = first_indexes (length b.entries)
settled_by_seek b (Some p) (Some v) = below_index (index_of b.ledgers p)

-- the identities of the messages at some indexes
abbrev pub with_message : Option Entry → List Ident → List Ident
with_message None is = is
with_message (Some e) is = if is_data e.content then e.ident ∷ is else is

abbrev pub messages_at : List Entry → List ℕ → List Ident
messages_at es [] = []
messages_at es (i ∷ is) = with_message (slice_get es i) (messages_at es is)

-- what an event settles on subscription n of topic t, at the cluster where it happens
unfoldable pub settled_event : Setup → World → ℕ → List ℕ → Event → List Ident
settled_event s w t n (event.Serve x c) =
    let b = topic_at s w t x in
    if (declared_at s c).topic == t
    then messages_at b.entries (settled_by_packet n b (topic_name s t) c (next_packet (link_at w.links (ToBroker c x))))
    else []
settled_event s w t n (event.Seek u x m to) =
    let b = topic_at s w t x in
    if (u == t) && has_sub s t x m && bytes_eq (sub_name s t m) n
    then messages_at b.entries (settled_by_seek b to (sub_named b.subs n))
    else []
settled_event s w t n e = []

-- after the first k of its durable writes: as much, once there is one
abbrev pub settled_behind : ℕ → Setup → World → ℕ → List ℕ → Event → List Ident
settled_behind k s w t n e = if nat_lt 0 k then settled_event s w t n e else []

abbrev pub settled_step : Setup → World → ℕ → List ℕ → Step → List Ident
settled_step s w t n (step.Plain e) = settled_event s w t n e
settled_step s w t n (step.Halt k e) = settled_behind k s w t n e
settled_step s w t n step.Settle = []
settled_step s w t n step.Stop = []

-- a step that would pass a limit is not done, and settles nothing
abbrev pub settled_from : Limits → Setup → Ran → List Step → ℕ → List ℕ → List Ident
settled_from l s r [] t n = []
settled_from l s r (e ∷ es) t n =
    let r' = steps l s r e in (if is_some r'.ended then [] else settled_step s r.world t n e) ++ settled_from l s r' es t n

-- over a run under limits, over a run without, and up to a moment
unfoldable pub settled_under : Limits → Setup → List Step → ℕ → List ℕ → List Ident
settled_under l s es t n = settled_from l s (record { world = opening_world s; ended = None }) es t n

abbrev pub settled : Setup → List Step → ℕ → List ℕ → List Ident
settled s es t n = settled_under no_limits s es t n

abbrev pub settled_at : Limits → Setup → Moment → ℕ → List ℕ → List Ident
settled_at l s m t n = settled_under l s m.steps t n ++ settled_behind m.writes s (world_between l s m.steps m.settling) t n m.event
