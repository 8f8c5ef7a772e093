-- The entry that a reader keeps of bytes is told by them, whichever cluster it says stored the entry first.
use Rattle.std.proofs.Common.{◌≡◌, ℕ, List, refl, sym, ap, subst, ◌∙◌}
use Rattle.std.specs.Prelude.{Option, Some, None}
use Rattle.geo_base.specs.declared.entry.Entry.{Entry}
use Rattle.geo_base.specs.declared.frame.Frame.{Frame}
use Rattle.geo_base.specs.declared.frame.Frame.TheVariants as frame
use Rattle.geo_base.specs.declared.marker.ClusterRef.{ClusterRef}
use Rattle.geo_base.specs.Entry.{with_origin}
use Rattle.pulsar_commands.specs.declared.command.Command.{Command}
use Rattle.pulsar_commands.specs.declared.command.Command.TheVariants as command
use Rattle.pulsar_frames.specs.declared.frame.Body.{Body}
use Rattle.frame_values.proofs.Known.{content_told}
use Rattle.frame_values.specs.Standing.{Reads, StandFor, bare, no_text, text as told}
use Rattle.frame_values.specs.Told.{IsToldEntry}
use Rattle.frame_values.specs.Values.{IsEntryOf, Says, carrying, simple_frame, targets_of}

entry_told : (names : List (List ℕ)) (b : Body) (source : Option ClusterRef) (e : Entry) → IsEntryOf names b source e → IsToldEntry names None e
entry_told names b source e h = record {
  to = h.to ∙ ap (λ (ns : List (List ℕ)). targets_of names ns) (sym h.listed);
  from = refl;
  content = content_told names b.meta.marker b.payload e.content e.payload h.content;
}

-- ---- the entry of a SEND

abbrev CarriesIt : Entry → Frame → Type 0
CarriesIt e (frame.Send id seq source a) = a ≡ e
CarriesIt e f = Unit {0}

abbrev IsSend : Frame → Type 0
IsSend (frame.Send id seq source a) = Unit {0}
IsSend f = ⊥

-- a command that carries no message is none
simple_other : (c : Command) → IsSend (simple_frame c) → ⊥
simple_other (command.Connect version protocol) h = h
simple_other (command.Connected version protocol) h = h
simple_other (command.Subscribe topic sub kind id request consumer earliest replicated) h = h
simple_other (command.Producer topic id request name) h = h
simple_other (command.Send id seq messages) h = h
simple_other (command.SendReceipt id seq position) h = h
simple_other (command.SendError id seq code message) h = h
simple_other (command.Message id position) h = h
simple_other (command.Ack id kind positions) h = h
simple_other (command.Flow id permits) h = h
simple_other (command.Unsubscribe id request) h = h
simple_other (command.Success request) h = h
simple_other (command.Error request code message) h = h
simple_other (command.CloseProducer id request) h = h
simple_other (command.CloseConsumer id request) h = h
simple_other (command.ProducerSuccess request name) h = h
simple_other command.Ping h = h
simple_other command.Pong h = h

-- the entry of one that carries a message
carried_is : (c : Command) (source : Option ClusterRef) (e : Entry) → CarriesIt e (carrying c source e)
carried_is (command.Connect version protocol) source e = tt
carried_is (command.Connected version protocol) source e = tt
carried_is (command.Subscribe topic sub kind id request consumer earliest replicated) source e = tt
carried_is (command.Producer topic id request name) source e = tt
carried_is (command.Send id seq messages) source e = refl
carried_is (command.SendReceipt id seq position) source e = tt
carried_is (command.SendError id seq code message) source e = tt
carried_is (command.Message id position) source e = tt
carried_is (command.Ack id kind positions) source e = tt
carried_is (command.Flow id permits) source e = tt
carried_is (command.Unsubscribe id request) source e = tt
carried_is (command.Success request) source e = tt
carried_is (command.Error request code message) source e = tt
carried_is (command.CloseProducer id request) source e = tt
carried_is (command.CloseConsumer id request) source e = tt
carried_is (command.ProducerSuccess request name) source e = tt
carried_is command.Ping source e = tt
carried_is command.Pong source e = tt

says_told : (names : List (List ℕ)) (c : Command) (o : Option Body) (id seq : ℕ) (source : Option ClusterRef) (a : Entry) → Says names c o (frame.Send id seq source a) → IsToldEntry names None a
says_told names c None id seq source a says = absurd (simple_other c (subst IsSend says tt))
says_told names c (Some b) id seq source a says =
    let same : a ≡ says.entry = subst (CarriesIt says.entry) (sym says.is) (carried_is c says.source says.entry) in
    subst (IsToldEntry names None) (sym same) (entry_told names b says.source says.entry says.says)

reads_told : (names : List (List ℕ)) (bytes : List ℕ) (id seq : ℕ) (source : Option ClusterRef) (a : Entry) → Reads names bytes (frame.Send id seq source a) → IsToldEntry names None a
reads_told names bytes id seq source a (told w is says) = says_told names w.command w.body id seq source a says
reads_told names bytes id seq source a (no_text none is) = absurd (subst IsSend is tt)

-- whichever cluster it says stored the entry first
pub stands_told : (names : List (List ℕ)) (bytes : List ℕ) (f : Frame) (id seq : ℕ) (source : Option ClusterRef) (a : Entry) → StandFor names bytes f → f ≡ frame.Send id seq source a → IsToldEntry names None a
stands_told names bytes f id seq source a stands is =
    let h = reads_told names bytes id seq source (with_origin 0 a) (subst (λ (g : Frame). Reads names bytes (bare g)) is stands) in
    record { to = h.to; from = refl; content = h.content }
