-- What an event changes at a client, and what it sends: prepared before it is done, and no copy of the client.
use Rattle.std.specs.Prelude.{◌+◌, ◌<◌, ◌^◌, true, not, List, [], ◌∷◌, ◌++◌, length, filter, drop, Option, Some, None, is_some, ⊤}
use Rattle.geo_base.specs.declared.client.Held.{Held}
use Rattle.geo_base.specs.declared.packet.Out.{Out}
use Rattle.geo_base.specs.Client.{Acted, Client, connected_to}
use Rattle.geo_base.specs.Going.{most_acks, most_unanswered, past, without_first}
use Rattle.geo_base.specs.Position.{position_le}
use Rattle.client.specs.declared.client.change.ClientChange.{ClientChange}
use Rattle.client.specs.declared.client.change.ClientChange.TheVariants as change
use Rattle.client.specs.declared.client.outgoing.Connection.{Connection}

-- all but a new connection do the client's next line
abbrev pub changed : ClientChange → Client → Client
changed change.LineDone k = past k
changed change.Produces k = record (past k) { produce = Some k.done }
changed change.Publishes k = record (past k) { unanswered = k.unanswered ++ k.done ∷ [] }
changed change.Subscribes k = record (past k) { sub = Some k.done; flow = None; held = [] }
changed change.Permits k = record (past k) { flow = Some k.done }
changed (change.Acknowledges i) k = record (past k) { held = without_first k.held i }
changed (change.AcknowledgesTo p) k = record (past k) { held = filter (λ (h : Held). not (position_le h.position p)) k.held }
changed change.AcknowledgesAll k = record (past k) { held = drop most_acks k.held }
changed change.EndsSub k = record (past k) { sub = None; flow = None; held = [] }
changed change.EndsProducer k = record (past k) { produce = None }
changed (change.Moves x) k = connected_to x (past k)
changed change.Reconnects k = connected_to k.cluster k

-- an event that is not enabled changes nothing
abbrev pub client_after : Option ClientChange → Client → Client
client_after None k = k
client_after (Some c) k = changed c k

-- what an event changes and sends, its packets as the machine's
pub record ClientPlan : Type 0 where
  pub change : Option ClientChange
  pub sent : List Out

-- what the event does at a client
abbrev pub acted : ClientPlan → Client → Acted
acted p k = record { idle = not (is_some p.change); client = client_after p.change k; sent = p.sent }

-- the window has room, and no number comes to its end
abbrev pub ChangeFits : ClientChange → Client → Type 0
ChangeFits change.Publishes k = (k.done + 1 < 2 ^ 64) × (length k.unanswered < most_unanswered)
ChangeFits (change.Moves x) k = (k.done + 1 < 2 ^ 64) × (k.connection + 1 < 2 ^ 64)
ChangeFits change.Reconnects k = k.connection + 1 < 2 ^ 64
ChangeFits c k = k.done + 1 < 2 ^ 64

abbrev pub ClientFits : Option ClientChange → Client → Type 0
ClientFits None k = ⊤
ClientFits (Some c) k = ChangeFits c k

-- a client on a connection, on which nothing is held
abbrev pub as_connected : Connection → Client → Client
as_connected c k = record k { cluster = c.cluster; connection = c.number; connected = true; held = [] }
