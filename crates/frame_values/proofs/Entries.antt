-- The code's parts of an entry are what the message says.
use Rattle.std.proofs.Common.{◌≡◌, ℕ, List, [], false, refl, subst, sym}
use Rattle.std.specs.Prelude.{Option, Some, Result, Ok, Err, IfOk, MatchOption}
use Rattle.geo_base.specs.declared.memory.Memory.{Memory}
use Rattle.geo_base.specs.declared.entry.Content.{Content}
use Rattle.geo_base.specs.declared.entry.Entry.{Entry}
use Rattle.geo_base.specs.declared.frame.Frame.{Frame}
use Rattle.geo_base.specs.declared.frame.Frame.TheVariants as frame
use Rattle.geo_base.specs.declared.marker.ClusterRef.{ClusterRef}
use Rattle.message_meta.specs.Metadata.{Metadata}
use Rattle.pb_fields.specs.Canonical.{text}
use Rattle.pulsar_commands.specs.declared.command.Command.{Command}
use Rattle.pulsar_commands.specs.declared.command.Command.TheVariants as command
use Rattle.pulsar_frames.specs.declared.frame.Body.{Body}
use Rattle.pulsar_frames.specs.declared.frame.Frame.{Frame as WireFrame}
use Rattle.pulsar_frames.specs.Frames.{IsFrameText}
use Rattle.message_meta.specs.Known.{IsRest}
use Rattle.frame_values.specs.declared.entry.Carried.{Carried}
use Rattle.frame_values.specs.declared.entry.Head.{Head}
use Rattle.frame_values.specs.Standing.{Reads, text as told}
use Rattle.frame_values.specs.Texts.{is_readable, unread_bytes}
use Rattle.frame_values.specs.Values.{Carries, IsContent, IsEntryOf, Says, SaysValue, carrying, entry_with, head_of}

pub headed_is : (names : List (List ℕ)) (b : Body) (m : Metadata) (h : Head) (x : Content) (kept : List ℕ) (c : Carried) → m ≡ b.meta → h ≡ head_of names m (text m.rest)
    → IsContent names m.marker b.payload x kept → c ≡ entry_with h x kept → IsEntryOf names b c.source c.entry
headed_is names b m h x kept c same head content is =
    rw (is, head)
    (subst (λ (n : Metadata). IsEntryOf names (record { meta = n; payload = b.payload }) (head_of names m (text m.rest)).source (entry_with (head_of names m (text m.rest)) x kept).entry) same
    (record { origin = refl; producer = refl; seq = refl; publish_time = refl; from = refl; key = refl; listed = refl; to = refl; rest = refl; content = content }))

pub headed_rest : (names : List (List ℕ)) (m : Metadata) (h : Head) (x : Content) (kept : List ℕ) (c : Carried) → h ≡ head_of names m (text m.rest) → c ≡ entry_with h x kept → IsRest (text m.rest)
    → IsRest c.entry.meta.rest
headed_rest names m h x kept c head is rest = rw (is, head) rest

pub carries_is : (names : List (List ℕ)) (c : Command) (b : Body) (f : Frame) (source : Option ClusterRef) (e : Entry) → f ≡ carrying c source e → IsEntryOf names b source e → Carries names c b f
carries_is names c b f source e is says = record { source = source; entry = e; is = is; says = says }

pub reads_is : (names : List (List ℕ)) (bytes : List ℕ) (w : WireFrame) (f : Frame) → IsFrameText bytes w → SaysValue names w f → Reads names bytes f
reads_is names bytes w f is says = told w is says

pub says_is : (names : List (List ℕ)) (c : Command) (o : Option Body) (b : Body) (f : Frame) (source : Option ClusterRef) (e : Entry) → o ≡ Some b → f ≡ carrying c source e → IsEntryOf names b source e → Says names c o f
says_is names c o b f source e there is says = rw there (carries_is names c b f source e is says)

pub reads_of : (names : List (List ℕ)) (bytes : List ℕ) (o : Option WireFrame) (w : WireFrame) (r : Result Frame Memory)
    → MatchOption o ((w : WireFrame) → IsFrameText bytes w → ⊥) (IsFrameText bytes) → o ≡ Some w → IfOk r (SaysValue names w) → IfOk r (Reads names bytes)
reads_of names bytes o w (Ok f) h there says =
    let is : IsFrameText bytes w = subst (λ (x : Option WireFrame). MatchOption x ((w : WireFrame) → IsFrameText bytes w → ⊥) (IsFrameText bytes)) there h in
    told w is says
reads_of names bytes o w (Err e) h there says = tt

-- no bytes are the text of no field
pub no_rest : IsRest []
no_rest = record { fields = []; is = refl; writable = tt; unknown = tt }

pub unreadable_is : (f : Frame) → is_readable f ≡ false → f ≡ frame.Unreadable
unreadable_is frame.Connect h = absurd cc
unreadable_is frame.Connected h = absurd cc
unreadable_is (frame.Subscribe topic sub kind id request consumer earliest replicated) h = absurd cc
unreadable_is (frame.Producer topic id request name) h = absurd cc
unreadable_is (frame.Send id seq source e) h = absurd cc
unreadable_is (frame.SendReceipt id seq position) h = absurd cc
unreadable_is (frame.SendError id seq code) h = absurd cc
unreadable_is (frame.Message id position source e) h = absurd cc
unreadable_is (frame.Ack id kind positions) h = absurd cc
unreadable_is (frame.Flow id permits) h = absurd cc
unreadable_is (frame.Unsubscribe id request) h = absurd cc
unreadable_is (frame.Success request) h = absurd cc
unreadable_is (frame.Error request code) h = absurd cc
unreadable_is (frame.CloseProducer id request) h = absurd cc
unreadable_is (frame.CloseConsumer id request) h = absurd cc
unreadable_is (frame.ProducerSuccess request name) h = absurd cc
unreadable_is frame.Ping h = absurd cc
unreadable_is frame.Pong h = absurd cc
unreadable_is frame.Unreadable h = refl

-- what a command with an entry keeps of fields that nobody reads
rest_of : (c : Command) (source : Option ClusterRef) (e : Entry) → IsRest e.meta.rest → IsRest (unread_bytes (carrying c source e))
rest_of (command.Connect version protocol) source e h = no_rest
rest_of (command.Connected version protocol) source e h = no_rest
rest_of (command.Subscribe topic sub kind id request consumer earliest replicated) source e h = no_rest
rest_of (command.Producer topic id request name) source e h = no_rest
rest_of (command.Send id seq messages) source e h = h
rest_of (command.SendReceipt id seq position) source e h = no_rest
rest_of (command.SendError id seq code message) source e h = no_rest
rest_of (command.Message id position) source e h = h
rest_of (command.Ack id kind positions) source e h = no_rest
rest_of (command.Flow id permits) source e h = no_rest
rest_of (command.Unsubscribe id request) source e h = no_rest
rest_of (command.Success request) source e h = no_rest
rest_of (command.Error request code message) source e h = no_rest
rest_of (command.CloseProducer id request) source e h = no_rest
rest_of (command.CloseConsumer id request) source e h = no_rest
rest_of (command.ProducerSuccess request name) source e h = no_rest
rest_of command.Ping source e h = no_rest
rest_of command.Pong source e h = no_rest

pub carrying_rest : (c : Command) (source : Option ClusterRef) (e : Entry) (f : Frame) → f ≡ carrying c source e → IsRest e.meta.rest → IsRest (unread_bytes f)
carrying_rest c source e f is h = subst (λ (g : Frame). IsRest (unread_bytes g)) (sym is) (rest_of c source e h)
