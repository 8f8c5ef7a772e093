-- A client's events ask of a setup for the names of clusters and topics alone.
use Rattle.std.proofs.Common.{◌≡◌, ℕ, List, [], ◌∷◌, refl, ap}
use Rattle.std.specs.Prelude.{Option, Some, None, if◌then◌else◌, slice_get}
use Rattle.geo_base.specs.declared.client.Line.{Line}
use Rattle.geo_base.specs.declared.client.Line.TheVariants as line
use Rattle.geo_base.specs.Client.{Acted, Client, command, command_at, commands_at, connected_to, connects, reconnect, stays}
use Rattle.geo_base.specs.Going.{go, go_line, past}
use Rattle.geo_base.specs.Setup.{Declared, Setup}
use Rattle.client.specs.Site.{known_setup}

abbrev known : Setup → Setup
known s = known_setup s.clusters s.topics

command_known : (s : Setup) (d : Declared) (k : Client) (i : ℕ) (l : Option Line) → command (known s) d k i l ≡ command s d k i l
command_known s d k i None = refl
command_known s d k i (Some line.Produce) = refl
command_known s d k i (Some (line.Pub seq to key text)) = refl
command_known s d k i (Some (line.Sub n kind earliest replicated)) = refl
command_known s d k i (Some (line.Flow permits)) = refl
command_known s d k i (Some (line.Ack ident)) = refl
command_known s d k i (Some (line.AckTo ident)) = refl
command_known s d k i (Some line.AckAll) = refl
command_known s d k i (Some line.Unsub) = refl
command_known s d k i (Some line.Close) = refl
command_known s d k i (Some line.CloseProducer) = refl
command_known s d k i (Some line.Ping) = refl
command_known s d k i (Some (line.Move x)) = refl

at_known : (s : Setup) (d : Declared) (k : Client) (o : Option ℕ) → command_at (known s) d k o ≡ command_at s d k o
at_known s d k None = refl
at_known s d k (Some i) = command_known s d k i (slice_get d.lines i)

all_known : (s : Setup) (d : Declared) (k : Client) (is : List ℕ) → commands_at (known s) d k is ≡ commands_at s d k is
all_known s d k [] = refl
all_known s d k (i ∷ is) = rw (at_known s d k (Some i), all_known s d k is) refl

connects_known : (s : Setup) (d : Declared) (k : Client) → connects (known s) d k ≡ connects s d k
connects_known s d k = rw (at_known s d k k.produce, at_known s d k k.sub, at_known s d k k.flow, all_known s d k k.unanswered) refl

line_known : (s : Setup) (d : Declared) (k : Client) (l : Option Line) → go_line (known s) d k l ≡ go_line s d k l
line_known s d k None = refl
line_known s d k (Some line.Produce) = refl
line_known s d k (Some (line.Pub seq to key text)) = refl
line_known s d k (Some (line.Sub n kind earliest replicated)) = refl
line_known s d k (Some (line.Flow permits)) = refl
line_known s d k (Some (line.Ack ident)) = refl
line_known s d k (Some (line.AckTo ident)) = refl
line_known s d k (Some line.AckAll) = refl
line_known s d k (Some line.Unsub) = refl
line_known s d k (Some line.Close) = refl
line_known s d k (Some line.CloseProducer) = refl
line_known s d k (Some line.Ping) = refl
line_known s d k (Some (line.Move x)) = connects_known s d (connected_to x (past k))

pub goes_known : (s : Setup) (d : Declared) (k : Client) → go (known_setup s.clusters s.topics) d k ≡ go s d k
unfolding go
goes_known s d k = ap (λ (a : Acted). if k.connected then a else stays k) (line_known s d k (slice_get d.lines k.done))

pub reconnects_known : (s : Setup) (d : Declared) (k : Client) → reconnect (known_setup s.clusters s.topics) d k ≡ reconnect s d k
unfolding reconnect
reconnects_known s d k = connects_known s d (connected_to k.cluster k)
