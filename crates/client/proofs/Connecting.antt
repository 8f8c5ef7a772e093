-- What a move sends is what a new connection sends: a command does not ask how many lines are done.
use Rattle.std.proofs.Common.{◌≡◌, ℕ, List, [], ◌∷◌, refl}
use Rattle.std.specs.Prelude.{Option, Some, None, slice_get}
use Rattle.geo_base.specs.declared.client.Line.{Line}
use Rattle.geo_base.specs.declared.client.Line.TheVariants as line
use Rattle.geo_base.specs.Client.{Client, command, command_at, commands_at, connected_to, connects}
use Rattle.geo_base.specs.Going.{past}
use Rattle.geo_base.specs.Setup.{Declared, Setup}
use Rattle.client.specs.declared.client.change.ClientChange.TheVariants as change
use Rattle.client.specs.Changing.{ClientPlan, acted}

same_command : (s : Setup) (d : Declared) (k : Client) (x i : ℕ) (l : Option Line) → command s d (connected_to x (past k)) i l ≡ command s d (connected_to x k) i l
same_command s d k x i None = refl
same_command s d k x i (Some line.Produce) = refl
same_command s d k x i (Some (line.Pub seq to key text)) = refl
same_command s d k x i (Some (line.Sub n kind earliest replicated)) = refl
same_command s d k x i (Some (line.Flow permits)) = refl
same_command s d k x i (Some (line.Ack ident)) = refl
same_command s d k x i (Some (line.AckTo ident)) = refl
same_command s d k x i (Some line.AckAll) = refl
same_command s d k x i (Some line.Unsub) = refl
same_command s d k x i (Some line.Close) = refl
same_command s d k x i (Some line.CloseProducer) = refl
same_command s d k x i (Some line.Ping) = refl
same_command s d k x i (Some (line.Move y)) = refl

same_at : (s : Setup) (d : Declared) (k : Client) (x : ℕ) (o : Option ℕ) → command_at s d (connected_to x (past k)) o ≡ command_at s d (connected_to x k) o
same_at s d k x None = refl
same_at s d k x (Some i) = same_command s d k x i (slice_get d.lines i)

same_all : (s : Setup) (d : Declared) (k : Client) (x : ℕ) (is : List ℕ) → commands_at s d (connected_to x (past k)) is ≡ commands_at s d (connected_to x k) is
same_all s d k x [] = refl
same_all s d k x (i ∷ is) = rw (same_at s d k x (Some i), same_all s d k x is) refl

pub moved : (s : Setup) (d : Declared) (k : Client) (x : ℕ) (p : ClientPlan) → p ≡ record { change = Some (change.Moves x); sent = (connects s d (connected_to x k)).sent }
    → acted p k ≡ connects s d (connected_to x (past k))
moved s d k x p is = rw (is, same_at s d k x k.produce, same_at s d k x k.sub, same_at s d k x k.flow, same_all s d k x k.unanswered) refl
