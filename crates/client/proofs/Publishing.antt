-- A publish to all clusters that is written from where its line stands.
use Rattle.std.proofs.Common.{◌≡◌, ℕ, true, ◌&&◌, List, [], ◌∷◌, length, nat_lt, refl, sym, subst}
use Rattle.std.specs.Prelude.{Option, Some, None, IfSome, is_some}
use Rattle.std.proofs.lemmas.Option.{IfSome_then}
use Rattle.geo_base.specs.declared.entry.Targets.TheVariants as targets
use Rattle.geo_base.specs.declared.entry.Targets.{Targets}
use Rattle.geo_base.specs.declared.frame.Frame.TheVariants as frame
use Rattle.geo_base.specs.declared.client.Line.TheVariants as line
use Rattle.geo_base.specs.declared.packet.Peer.TheVariants as peer
use Rattle.geo_base.specs.Client.{Client, Acted, id_of, published, stays}
use Rattle.geo_base.specs.Going.{go_line, most_unanswered}
use Rattle.geo_base.specs.Setup.{Declared, Setup}
use Rattle.pulsar_commands.specs.declared.view.CommandView.TheVariants as view
use Rattle.pulsar_frames.specs.declared.frame.Body.{Body}
use Rattle.pulsar_frames.specs.declared.view.MessageView.{MessageView}
use Rattle.pulsar_frames.specs.Usual.{IsUsualText, carrying_viewed, message_viewed}
use Rattle.pulsar_commands.specs.Usual.{command_viewed}
use Rattle.frame_values.specs.Coded.{IsWritten}
use Rattle.client.specs.declared.client.change.ClientChange.TheVariants as change
use Rattle.client.specs.Prepared.{IsPrepared, PreparedClient}
use Rattle.client.specs.Usual.{message_published}

-- the text of its message is that of the machine's SEND
pub written_publish : (s : Setup) (d : Declared) (k : Client) (seq : ℕ) (to : Targets) (key : Option (List ℕ)) (text : List ℕ) (m : MessageView) (o : Option (List ℕ)) → to ≡ targets.All → message_viewed m ≡ message_published d seq key text
    → IfSome o (IsUsualText (carrying_viewed (view.Send (id_of k.produce) seq 1) m)) → IfSome o (IsWritten s.clusters (frame.Send (id_of k.produce) seq None (published s d k seq to key text)))
written_publish s d k seq to key text m o all same h = IfSome_then o h (λ bytes usual. subst (λ (t : Targets). IsWritten s.clusters (frame.Send (id_of k.produce) seq None (published s d k seq t key text)) bytes) (sym all)
    (written bytes (subst (λ (b : Body). IsUsualText (record { command = command_viewed (view.Send (id_of k.produce) seq 1); body = Some b }) bytes) same usual)))
  where
    written : (bytes : List ℕ) → IsUsualText (record { command = command_viewed (view.Send (id_of k.produce) seq 1); body = Some (message_published d seq key text) }) bytes
        → IsWritten s.clusters (frame.Send (id_of k.produce) seq None (published s d k seq targets.All key text)) bytes
    written bytes usual = record { rest = []; kept = refl; canonical = usual.canonical; is_text = usual.is_text; marker = tt }

-- what is prepared is what the machine's line does
pub publishes : (s : Setup) (d : Declared) (k : Client) (seq : ℕ) (to : Targets) (key : Option (List ℕ)) (text bytes : List ℕ) (p : PreparedClient) → (is_some k.produce && nat_lt (length k.unanswered) most_unanswered) ≡ true
    → IsWritten s.clusters (frame.Send (id_of k.produce) seq None (published s d k seq to key text)) bytes
    → p ≡ record { change = Some change.Publishes; sent = record { to = peer.Broker k.cluster; session = k.connection; frame = bytes } ∷ [] }
    → IsPrepared s.clusters k p (go_line s d k (Some (line.Pub seq to key text)))
publishes s d k seq to key text bytes p can written is = rw (is, can) (record { idle = refl; client = refl; sent = (record { to = refl; session = refl; frame = written }, tt) })

-- a line that waits
pub waits : (names : List (List ℕ)) (k : Client) (p : PreparedClient) (a : Acted) → p ≡ record { change = None; sent = [] } → a ≡ stays k → IsPrepared names k p a
waits names k p a is idle = rw (is, idle) (record { idle = refl; client = refl; sent = tt })
