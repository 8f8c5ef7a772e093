-- Which node an event concerns, which link it takes a packet from, and its plan.
use Rattle.std.specs.Prelude.{ℕ, nat_lt, Bool, ◌&&◌, if◌then◌else◌, length, Option, Some, None}
use Rattle.geo_base.specs.Types.{Event, Packet}
use Rattle.geo_base.specs.Types.event
use Rattle.geo_base.specs.Broker.{Broker}
use Rattle.geo_base.specs.Forwarding.{receipt, reset, take_packet}
use Rattle.geo_base.specs.Link.{next_packet}
use Rattle.geo_base.specs.Markers.{snap}
use Rattle.geo_base.specs.Offering.{offer}
use Rattle.geo_base.specs.Plan.{Plan, idle_plan}
use Rattle.geo_base.specs.Reading.{read}
use Rattle.geo_base.specs.Seeking.{restart, seek}
use Rattle.geo_base.specs.Serving.{drop_client, serve}
use Rattle.geo_base.specs.Setup.{Setup, declared_at, sub_name, sub_names}
use Rattle.geo_base.specs.World.{Back, Forward, LinkName, ToBroker, World, link_at, node, site, topic_at}

pub record Planned : Type 0 where
  pub topic : ℕ
  pub cluster : ℕ
  pub takes : Option LinkName
  pub plan : Plan

-- the plan of an event at its broker, whose state is b, with the packet that it takes; an event of a client has none
abbrev pub broker_plan : Setup → Broker → Event → Option Packet → Plan
broker_plan s b (event.Serve x c) p = serve (site s (declared_at s c).topic x) b c p
broker_plan s b (event.Drop x c) p = drop_client b c
broker_plan s b (event.Reset t x y) p = reset (site s t x) b y
broker_plan s b (event.Read t x y) p = read (site s t x) b y
broker_plan s b (event.Take t x y f) p = take_packet (site s t y) b x f p
broker_plan s b (event.Receipt t x y f) p = receipt (site s t x) b y f p
broker_plan s b (event.Snap t x) p = snap (site s t x) b
broker_plan s b (event.Offer t x n) p = offer (site s t x) b (sub_name s t n)
broker_plan s b (event.Seek t x n to) p = seek (site s t x) b (sub_name s t n) to
broker_plan s b (event.Restart t x) p = restart
broker_plan s b (event.Go c) p = idle_plan
broker_plan s b (event.Get c) p = idle_plan
broker_plan s b (event.Reconnect c) p = idle_plan

abbrev pub plan_at : Setup → World → ℕ → ℕ → Event → Planned
plan_at s w t x e = record { topic = t; cluster = x; takes = None; plan = broker_plan s (topic_at s w t x) e None }

abbrev pub plan_taking : Setup → World → ℕ → ℕ → LinkName → Event → Planned
plan_taking s w t x k e =
    record { topic = t; cluster = x; takes = Some k; plan = broker_plan s (topic_at s w t x) e (next_packet (link_at w.links k)) }

-- of an event of a broker; a client's has none
abbrev pub planned_in : Setup → World → Event → Option Planned
planned_in s w (event.Serve x c) = Some (plan_taking s w (declared_at s c).topic x (ToBroker c x) (event.Serve x c))
planned_in s w (event.Drop x c) = Some (plan_at s w (declared_at s c).topic x (event.Drop x c))
planned_in s w (event.Reset t x y) = Some (plan_at s w t x (event.Reset t x y))
planned_in s w (event.Read t x y) = Some (plan_at s w t x (event.Read t x y))
planned_in s w (event.Take t x y f) = Some (plan_taking s w t y (Forward (node s t x) y) (event.Take t x y f))
planned_in s w (event.Receipt t x y f) = Some (plan_taking s w t x (Back (node s t x) y) (event.Receipt t x y f))
planned_in s w (event.Snap t x) = Some (plan_at s w t x (event.Snap t x))
planned_in s w (event.Offer t x n) = Some (plan_at s w t x (event.Offer t x n))
planned_in s w (event.Seek t x n to) = Some (plan_at s w t x (event.Seek t x n to))
planned_in s w (event.Restart t x) = Some (plan_at s w t x (event.Restart t x))
planned_in s w (event.Go c) = None
planned_in s w (event.Get c) = None
planned_in s w (event.Reconnect c) = None

abbrev pub has_node : Setup → ℕ → ℕ → Bool
has_node s t x = nat_lt t (length s.topics) && nat_lt x (length s.clusters)

abbrev pub has_client : Setup → ℕ → Bool
has_client s c = nat_lt c (length s.clients)

abbrev pub has_pair : Setup → ℕ → ℕ → ℕ → Bool
has_pair s t x y = has_node s t x && nat_lt y (length s.clusters)

-- whether the topic has a subscription's name of that number at a cluster
abbrev pub has_sub : Setup → ℕ → ℕ → ℕ → Bool
has_sub s t x n = has_node s t x && nat_lt n (length (sub_names s t))

-- the topics, clusters, clients and names of subscriptions that an event names are in the setup
abbrev pub in_range : Setup → Event → Bool
in_range s (event.Serve x c) = nat_lt x (length s.clusters) && has_client s c
in_range s (event.Drop x c) = nat_lt x (length s.clusters) && has_client s c
in_range s (event.Reset t x y) = has_pair s t x y
in_range s (event.Read t x y) = has_pair s t x y
in_range s (event.Take t x y f) = has_pair s t x y
in_range s (event.Receipt t x y f) = has_pair s t x y
in_range s (event.Snap t x) = has_node s t x
in_range s (event.Offer t x n) = has_sub s t x n
in_range s (event.Seek t x n to) = has_sub s t x n
in_range s (event.Restart t x) = has_node s t x
in_range s (event.Go c) = has_client s c
in_range s (event.Get c) = has_client s c
in_range s (event.Reconnect c) = has_client s c

-- a number out of range names nobody, or a node of another topic, so such an event has no plan and is idle (own)
unfoldable pub planned : Setup → World → Event → Option Planned
planned s w e = if in_range s e then planned_in s w e else None
