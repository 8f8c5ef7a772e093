-- Handed out: the messages that some client of a subscription got, and those that were passed over openly though nobody got them, by a
-- creation at Latest or an operator's seek. It is told from what came, as what is settled is: a get tells what it adds to what its client
-- got, and an acknowledgement tells nothing. What is handed out only grows, and no part of the program keeps it.
use Rattle.std.specs.Prelude.{ℕ, nat_lt, ◌==◌, Bool, true, false, if◌then◌else◌, List, [], ◌++◌, drop, length, Option, Some, None}
use Rattle.geo_base.specs.declared.entry.Ident.{Ident}
use Rattle.geo_base.specs.declared.event.Event.TheVariants as event
use Rattle.geo_base.specs.declared.event.Event.{Event}
use Rattle.geo_base.specs.declared.frame.Frame.TheVariants as frame
use Rattle.geo_base.specs.declared.frame.Frame.{Frame}
use Rattle.geo_base.specs.declared.packet.Packet.{Packet}
use Rattle.geo_base.specs.Client.{Client}
use Rattle.geo_base.specs.Getting.{get}
use Rattle.geo_base.specs.Link.{next_packet}
use Rattle.geo_base.specs.Safe.{OnlySettled}
use Rattle.geo_base.specs.Settled.{SettledSoFar, settled_event}
use Rattle.geo_base.specs.Setup.{Declared, Setup, declared_at}
use Rattle.geo_base.specs.World.{ToBroker, ToClient, World, client_at, link_at}
use Rattle.world_laws.specs.Telling.{Telling}
use Rattle.consumer_laws.specs.Lines.{subs_to}

abbrev pub is_ack : Frame → Bool
is_ack (frame.Ack id kind ps) = true
is_ack f = false

abbrev pub brings_ack : Option Packet → Bool
brings_ack None = false
brings_ack (Some p) = is_ack p.frame

-- what an event settles by no acknowledgement: a creation at Latest passes over what stands there, and a seek what stands below it
abbrev pub skipped_event : Setup → World → ℕ → List ℕ → Event → List Ident
skipped_event s w t n (event.Serve x c) =
    if brings_ack (next_packet (link_at w.links (ToBroker c x))) then [] else settled_event s w t n (event.Serve x c)
skipped_event s w t n e = settled_event s w t n e

-- what a get adds to what its client got, where its sub line in force names n
abbrev pub got_by : Declared → Client → Option Packet → List ℕ → List Ident
got_by d k next n = if subs_to d k.sub n then drop (length k.got) (get d k next).client.got else []

abbrev pub got_event : Setup → World → ℕ → List ℕ → Event → List Ident
got_event s w t n (event.Get c) =
    let d = declared_at s c in let k = client_at s w c in
    if d.topic == t then got_by d k (next_packet (link_at w.links (ToClient c k.cluster))) n else []
got_event s w t n e = []

abbrev pub handed_event : Setup → World → ℕ → List ℕ → Event → List Ident
handed_event s w t n e = skipped_event s w t n e ++ got_event s w t n e

-- after the first k durable writes of an event; a get has none
abbrev pub handed_behind : ℕ → Setup → World → ℕ → List ℕ → Event → List Ident
handed_behind k s w t n e = if nat_lt 0 k then skipped_event s w t n e else []

-- what is handed out is told so
abbrev pub handing : Setup → Telling
handing s = record { event = handed_event s; behind = λ k. handed_behind k s }

-- each index in a cursor is that of a marker or of a message that is handed out on its subscription
abbrev pub OnlyHanded : Setup → World → SettledSoFar → Type 0
OnlyHanded s w handed = OnlySettled s w handed
