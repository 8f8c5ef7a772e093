-- What is read of bytes does not say which cluster stored an entry first.
use Rattle.std.proofs.Common.{◌≡◌, ℕ, List, refl, sym, ◌∙◌, ap, subst}
use Rattle.std.specs.Prelude.{Option, Some, None}
use Rattle.geo_base.specs.declared.entry.Entry.{Entry}
use Rattle.geo_base.specs.declared.frame.Frame.{Frame}
use Rattle.geo_base.specs.declared.frame.Frame.TheVariants as frame
use Rattle.geo_base.specs.declared.marker.ClusterRef.{ClusterRef}
use Rattle.geo_base.specs.Entry.{with_origin}
use Rattle.pulsar_commands.specs.declared.command.Command.{Command}
use Rattle.pulsar_commands.specs.declared.command.Command.TheVariants as command
use Rattle.pulsar_frames.specs.declared.frame.Body.{Body}
use Rattle.frame_values.specs.Standing.{Reads, StandFor, bare, no_text, text}
use Rattle.frame_values.specs.Values.{Says, carrying, simple_frame}

simple_bare : (c : Command) → bare (simple_frame c) ≡ simple_frame c
simple_bare (command.Connect version protocol) = refl
simple_bare (command.Connected version protocol) = refl
simple_bare (command.Subscribe topic sub kind id request consumer earliest replicated) = refl
simple_bare (command.Producer topic id request name) = refl
simple_bare (command.Send id seq messages) = refl
simple_bare (command.SendReceipt id seq position) = refl
simple_bare (command.SendError id seq code message) = refl
simple_bare (command.Message id position) = refl
simple_bare (command.Ack id kind positions) = refl
simple_bare (command.Flow id permits) = refl
simple_bare (command.Unsubscribe id request) = refl
simple_bare (command.Success request) = refl
simple_bare (command.Error request code message) = refl
simple_bare (command.CloseProducer id request) = refl
simple_bare (command.CloseConsumer id request) = refl
simple_bare (command.ProducerSuccess request name) = refl
simple_bare command.Ping = refl
simple_bare command.Pong = refl

entry_bare : (e : Entry) → e.ident.origin ≡ 0 → with_origin 0 e ≡ e
entry_bare e none = ap (λ (x : ℕ). with_origin x e) (sym none)

carrying_bare : (c : Command) (source : Option ClusterRef) (e : Entry) → e.ident.origin ≡ 0 → bare (carrying c source e) ≡ carrying c source e
carrying_bare (command.Connect version protocol) source e none = refl
carrying_bare (command.Connected version protocol) source e none = refl
carrying_bare (command.Subscribe topic sub kind id request consumer earliest replicated) source e none = refl
carrying_bare (command.Producer topic id request name) source e none = refl
carrying_bare (command.Send id seq messages) source e none = ap (λ (v : Entry). frame.Send id seq source v) (entry_bare e none)
carrying_bare (command.SendReceipt id seq position) source e none = refl
carrying_bare (command.SendError id seq code message) source e none = refl
carrying_bare (command.Message id position) source e none = ap (λ (v : Entry). frame.Message id position source v) (entry_bare e none)
carrying_bare (command.Ack id kind positions) source e none = refl
carrying_bare (command.Flow id permits) source e none = refl
carrying_bare (command.Unsubscribe id request) source e none = refl
carrying_bare (command.Success request) source e none = refl
carrying_bare (command.Error request code message) source e none = refl
carrying_bare (command.CloseProducer id request) source e none = refl
carrying_bare (command.CloseConsumer id request) source e none = refl
carrying_bare (command.ProducerSuccess request name) source e none = refl
carrying_bare command.Ping source e none = refl
carrying_bare command.Pong source e none = refl

says_bare : (names : List (List ℕ)) (c : Command) (o : Option Body) (f : Frame) → Says names c o f → bare f ≡ f
says_bare names c None f is = ap bare is ∙ simple_bare c ∙ sym is
says_bare names c (Some b) f carries = ap bare carries.is ∙ carrying_bare c carries.source carries.entry carries.says.origin ∙ sym carries.is

reads_bare : (names : List (List ℕ)) (bytes : List ℕ) (f : Frame) → Reads names bytes f → bare f ≡ f
reads_bare names bytes f (text w is says) = says_bare names w.command w.body f says
reads_bare names bytes f (no_text none is) = ap bare is ∙ sym is

-- so bytes stand for what is read of them
pub reads_stand : (names : List (List ℕ)) (bytes : List ℕ) (f : Frame) → Reads names bytes f → StandFor names bytes f
reads_stand names bytes f reads = subst (λ (g : Frame). Reads names bytes g) (sym (reads_bare names bytes f reads)) reads
