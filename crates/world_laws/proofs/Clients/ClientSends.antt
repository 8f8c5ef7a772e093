-- What client c sends, on whatever connection: each packet is of that connection, and a SUBSCRIBE has the id of the sub line that it was
-- made of. No event lowers the number of c's connection.
use Rattle.std.proofs.Common.{◌≡◌, ℕ, ◌≤◌, Bool, true, false, List, [], ◌∷◌, ◌++◌, length, refl, arith, ◌==◌}
use Rattle.std.specs.Prelude.{Option, Some, None, ◌&&◌, if◌then◌else◌, is_some, nat_lt, slice_get}
use Rattle.std.specs.List.{list_any}
use Rattle.world_laws.proofs.Types.{Frame, Held, Ident, Line, Out, Packet, Position}
use Rattle.world_laws.proofs.Types.frame
use Rattle.world_laws.proofs.Types.line
use Rattle.world_laws.proofs.Types.cluster_ref
use Rattle.geo_base.specs.Client.{Acted, Client, command, command_at, commands_at, connected_to, connects, reconnect, stays}
use Rattle.geo_base.specs.Getting.{answered, get, got_frame, is_duplicate, is_number, publishes, received, with_error, with_receipt}
use Rattle.geo_base.specs.Going.{acks_all, acks_one, acks_to, first_held, go, go_line, most_unanswered, past}
use Rattle.geo_base.specs.Setup.{Declared, Setup}
use Rattle.world_laws.proofs.Replicating.Effects.{Each, each_both}
use Rattle.world_laws.proofs.Walks.Walk.{on_if}
use Rattle.world_laws.proofs.Clients.CalmWalk.{IsNamed}

-- out on connection m
pub record IsOut (m : ℕ) (d : Declared) (o : Out) : Type 0 where
  pub session : o.session ≡ m
  pub named : IsNamed d o.frame

-- what c does
pub record Sends (d : Declared) (k : Client) (a : Acted) : Type 0 where
  pub rises : k.connection ≤ a.client.connection
  pub sent : Each (IsOut a.client.connection d) a.sent

stays_sends : (d : Declared) (k : Client) → Sends d k (stays k)
stays_sends d k = record { rises = omega arith; sent = tt }

command_out : (s : Setup) (d : Declared) (k : Client) (i : ℕ) (o : Option Line) → slice_get d.lines i ≡ o → Each (IsOut k.connection d) (command s d k i o)
command_out s d k i None at = tt
command_out s d k i (Some line.Produce) at = (record { session = refl; named = tt }, tt)
command_out s d k i (Some (line.Sub n kind earliest replicated)) at = (record { session = refl; named = at }, tt)
command_out s d k i (Some (line.Flow permits)) at = (record { session = refl; named = tt }, tt)
command_out s d k i (Some (line.Pub seq to key text)) at = (record { session = refl; named = tt }, tt)
command_out s d k i (Some l) at = tt

at_out : (s : Setup) (d : Declared) (k : Client) (o : Option ℕ) → Each (IsOut k.connection d) (command_at s d k o)
at_out s d k None = tt
at_out s d k (Some i) = command_out s d k i (slice_get d.lines i) refl

all_out : (s : Setup) (d : Declared) (k : Client) (is : List ℕ) → Each (IsOut k.connection d) (commands_at s d k is)
all_out s d k [] = tt
all_out s d k (i ∷ is) = each_both (IsOut k.connection d) (command_at s d k (Some i)) (commands_at s d k is) (at_out s d k (Some i)) (all_out s d k is)

connects_out : (s : Setup) (d : Declared) (j k : Client) → j.connection ≤ k.connection → Sends d j (connects s d k)
connects_out s d j k le =
    let F = IsOut k.connection d in
    let flow = each_both F (command_at s d k k.flow) (commands_at s d k k.unanswered) (at_out s d k k.flow) (all_out s d k k.unanswered) in
    let sub = each_both F (command_at s d k k.sub) (command_at s d k k.flow ++ commands_at s d k k.unanswered) (at_out s d k k.sub) flow in
    record {
      rises = le;
      sent = (
        record { session = refl; named = tt },
        each_both F (command_at s d k k.produce) (command_at s d k k.sub ++ (command_at s d k k.flow ++ commands_at s d k k.unanswered)) (at_out s d k k.produce) sub,
      );
    }

acks_one_out : (d : Declared) (k : Client) (i : Ident) (o : Option Position) → Sends d k (acks_one k i o)
acks_one_out d k i None = stays_sends d k
acks_one_out d k i (Some p) = record { rises = omega arith; sent = (record { session = refl; named = tt }, tt) }

acks_to_out : (d : Declared) (k : Client) (o : Option Position) → Sends d k (acks_to k o)
acks_to_out d k None = stays_sends d k
acks_to_out d k (Some p) = record { rises = omega arith; sent = (record { session = refl; named = tt }, tt) }

acks_all_out : (d : Declared) (k : Client) (hs : List Held) → Sends d k (acks_all k hs)
acks_all_out d k [] = stays_sends d k
acks_all_out d k (h ∷ hs) = record { rises = omega arith; sent = (record { session = refl; named = tt }, tt) }

line_out : (s : Setup) (d : Declared) (k : Client) (l : Option Line) → slice_get d.lines k.done ≡ l → Sends d k (go_line s d k l)
line_out s d k None at = stays_sends d k
line_out s d k (Some line.Produce) at = record { rises = omega arith; sent = command_out s d (record (past k) { produce = Some k.done }) k.done (Some line.Produce) at }
line_out s d k (Some (line.Pub seq to key text)) at =
    on_if (Sends d k) (is_some k.produce && nat_lt (length k.unanswered) most_unanswered) _ _
    (record { rises = omega arith; sent = command_out s d k k.done (Some (line.Pub seq to key text)) at }) (stays_sends d k)
line_out s d k (Some (line.Sub n kind earliest replicated)) at = record { rises = omega arith; sent = command_out s d k k.done (Some (line.Sub n kind earliest replicated)) at }
line_out s d k (Some (line.Flow permits)) at =
    on_if (Sends d k) (is_some k.sub) _ _ (record { rises = omega arith; sent = command_out s d k k.done (Some (line.Flow permits)) at }) (stays_sends d k)
line_out s d k (Some (line.Ack i)) at = acks_one_out d k i (first_held k.held i)
line_out s d k (Some (line.AckTo i)) at = acks_to_out d k (first_held k.held i)
line_out s d k (Some line.AckAll) at = acks_all_out d k k.held
line_out s d k (Some line.Unsub) at = on_if (Sends d k) (is_some k.sub) _ _ (record { rises = omega arith; sent = (record { session = refl; named = tt }, tt) }) (stays_sends d k)
line_out s d k (Some line.Close) at = on_if (Sends d k) (is_some k.sub) _ _ (record { rises = omega arith; sent = (record { session = refl; named = tt }, tt) }) (stays_sends d k)
line_out s d k (Some line.CloseProducer) at =
    on_if (Sends d k) (is_some k.produce && (length k.unanswered == 0)) _ _ (record { rises = omega arith; sent = (record { session = refl; named = tt }, tt) }) (stays_sends d k)
line_out s d k (Some line.Ping) at = record { rises = omega arith; sent = (record { session = refl; named = tt }, tt) }
line_out s d k (Some (line.Move x)) at = connects_out s d k (connected_to x (past k)) (omega arith)

-- what a get leaves of the connection
record Same (k j : Client) : Type 0 where
  is : j.connection ≡ k.connection

answered_same : (d : Declared) (k : Client) (n : ℕ) (counted : Client) → Same k counted → Same k (answered d k n counted)
answered_same d k n counted h = on_if (Same k) (list_any (publishes d n) k.unanswered) _ _ (record { is = h.is }) (record { is = refl })

receipt_same : (k : Client) (t : Bool) → Same k (with_receipt k t)
receipt_same k true = record { is = refl }
receipt_same k false = record { is = refl }

received_same : (k : Client) (id : ℕ) (i : Ident) (p : Position) → Same k (received k id i p)
received_same k id i p = on_if (Same k) (is_number id k.sub) _ _ (record { is = refl }) (record { is = refl })

frame_same : (d : Declared) (k : Client) (f : Frame) → Same k (got_frame d k f)
frame_same d k (frame.SendReceipt id n p) = answered_same d k n (with_receipt k (is_duplicate p)) (receipt_same k (is_duplicate p))
frame_same d k (frame.SendError id n code) = answered_same d k n (with_error k) (record { is = refl })
frame_same d k (frame.Error request code) = record { is = refl }
frame_same d k (frame.Message id p None e) = received_same k id _ p
frame_same d k (frame.Message id p (Some (cluster_ref.Known x)) e) = received_same k id _ p
frame_same d k (frame.Message id p (Some (cluster_ref.Stranger name)) e) = record { is = refl }
frame_same d k f = record { is = refl }

packet_same : (d : Declared) (k : Client) (p : Packet) → Same k (if p.session == k.connection then got_frame d k p.frame else k)
packet_same d k p = on_if (Same k) (p.session == k.connection) _ _ (frame_same d k p.frame) (record { is = refl })

-- of go, reconnect and get
pub go_out : (s : Setup) (d : Declared) (k : Client) → Sends d k (go s d k)
unfolding go
go_out s d k = on_if (Sends d k) k.connected _ _ (line_out s d k (slice_get d.lines k.done) refl) (stays_sends d k)

pub reconnect_out : (s : Setup) (d : Declared) (k : Client) → Sends d k (reconnect s d k)
unfolding reconnect
reconnect_out s d k = connects_out s d k (connected_to k.cluster k) (omega arith)

pub get_out : (d : Declared) (k : Client) (p : Option Packet) → Sends d k (get d k p)
unfolding get
get_out d k None = stays_sends d k
get_out d k (Some p) = let same = (packet_same d k p).is in record { rises = omega (arith, same); sent = tt }
