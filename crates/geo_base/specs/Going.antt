-- go: a client does its next line, where it is enabled; else it stays at the line (own).
use Rattle.std.specs.Prelude.{ℕ, ◌+◌, nat_lt, ◌==◌, not, ◌&&◌, if◌then◌else◌, List, [], ◌∷◌, ◌++◌, length, map, filter, take, drop, Option, Some, None, slice_get, is_some}
use Rattle.geo_base.specs.Types.{Frame, Held, Ident, Line, Position}
use Rattle.geo_base.specs.Types.ack_kind
use Rattle.geo_base.specs.Types.frame
use Rattle.geo_base.specs.Types.line
use Rattle.geo_base.specs.Client.{Acted, Client, becomes, command, connected_to, connects, id_of, stays, to_broker}
use Rattle.geo_base.specs.Entry.{same_ident}
use Rattle.geo_base.specs.Position.{position_le}
use Rattle.geo_base.specs.Setup.{Declared, Setup}

-- the line is done
abbrev pub past : Client → Client
past k = record k { done = k.done + 1 }

-- the position under which the first held message of an identity came, in order of receipt
abbrev pub first_held : List Held → Ident → Option Position
first_held [] i = None
first_held (h ∷ hs) i = if same_ident h.ident i then Some h.position else first_held hs i

abbrev pub without_first : List Held → Ident → List Held
without_first [] i = []
without_first (h ∷ hs) i = if same_ident h.ident i then hs else h ∷ without_first hs i

abbrev pub acks_one : Client → Ident → Option Position → Acted
acks_one k i None = stays k
acks_one k i (Some p) = becomes (record (past k) { held = without_first k.held i }) (to_broker k (frame.Ack (id_of k.sub) ack_kind.Individual (p ∷ [])))

abbrev pub acks_to : Client → Option Position → Acted
acks_to k None = stays k
acks_to k (Some p) =
    becomes (record (past k) { held = filter (λ (h : Held). not (position_le h.position p)) k.held }) (to_broker k (frame.Ack (id_of k.sub) ack_kind.Cumulative (p ∷ [])))

-- the most positions of one acknowledgement (own: a position takes at most 22 bytes and the two of its field, so the frame stays
-- below Pulsar's largest, 5 MiB and 10 KiB)
abbrev pub most_acks : ℕ
most_acks = 200000

abbrev pub acks_all : Client → List Held → Acted
acks_all k [] = stays k
acks_all k (h ∷ hs) =
    becomes (record (past k) { held = drop most_acks (h ∷ hs) })
    (to_broker k (frame.Ack (id_of k.sub) ack_kind.Individual (map (λ (g : Held). g.position) (take most_acks (h ∷ hs)))))

-- the most publishes that wait for their receipts (own: a window, as Pulsar's clients have one, bounds what a reconnect sends again)
abbrev pub most_unanswered : ℕ
most_unanswered = 256

-- the sub and the flow line end after the command was made
abbrev pub ends_sub : Client → Frame → Acted
ends_sub k f = if is_some k.sub then becomes (record (past k) { sub = None; flow = None; held = [] }) (to_broker k f) else stays k

-- a produce, sub or flow line comes into force before its command is made
abbrev pub go_line : Setup → Declared → Client → Option Line → Acted
go_line s d k None = stays k
go_line s d k (Some line.Produce) =
    let k' : Client = record (past k) { produce = Some k.done } in becomes k' (command s d k' k.done (Some line.Produce))
go_line s d k (Some (line.Pub seq to key text)) =
    if is_some k.produce && nat_lt (length k.unanswered) most_unanswered
    then becomes (record (past k) { unanswered = k.unanswered ++ k.done ∷ [] }) (command s d k k.done (Some (line.Pub seq to key text)))
    else stays k
go_line s d k (Some (line.Sub n kind earliest replicated)) =
    becomes (record (past k) { sub = Some k.done; flow = None; held = [] }) (command s d k k.done (Some (line.Sub n kind earliest replicated)))
go_line s d k (Some (line.Flow permits)) =
    if is_some k.sub then becomes (record (past k) { flow = Some k.done }) (command s d k k.done (Some (line.Flow permits))) else stays k
go_line s d k (Some (line.Ack i)) = acks_one k i (first_held k.held i)
go_line s d k (Some (line.AckTo i)) = acks_to k (first_held k.held i)
go_line s d k (Some line.AckAll) = acks_all k k.held
go_line s d k (Some line.Unsub) = ends_sub k (frame.Unsubscribe (id_of k.sub) k.done)
go_line s d k (Some line.Close) = ends_sub k (frame.CloseConsumer (id_of k.sub) k.done)
go_line s d k (Some line.CloseProducer) =
    if is_some k.produce && (length k.unanswered == 0)
    then becomes (record (past k) { produce = None }) (to_broker k (frame.CloseProducer (id_of k.produce) k.done))
    else stays k
go_line s d k (Some line.Ping) = becomes (past k) (to_broker k frame.Ping)
go_line s d k (Some (line.Move x)) = connects s d (connected_to x (past k))

unfoldable pub go : Setup → Declared → Client → Acted
go s d k = if k.connected then go_line s d k (slice_get d.lines k.done) else stays k
