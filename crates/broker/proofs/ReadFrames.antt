-- What a reader says of bytes can be written again: of an entry its marker stands in its payload.
use Rattle.std.proofs.Common.{◌≡◌, ℕ, ◌+◌, ◌≤◌, Bool, true, false, List, [], ◌∷◌, length, map, sym, ◌∙◌, ap, subst, arith, length-append}
use Rattle.std.specs.Prelude.{Option, Some, None, IfSome, filter, ◌==◌, if◌then◌else◌}
use Rattle.std.specs.List.{AllByRecursion, last_or}
use Rattle.geo_base.specs.declared.entry.Content.{Content}
use Rattle.geo_base.specs.declared.entry.Content.TheVariants as content
use Rattle.geo_base.specs.declared.entry.Entry.{Entry}
use Rattle.geo_base.specs.declared.frame.Frame.{Frame}
use Rattle.geo_base.specs.declared.marker.Marker.{Marker as MachineMarker}
use Rattle.geo_base.specs.declared.marker.ClusterRef.{ClusterRef}
use Rattle.marker_codec.specs.declared.marker.Marker.{Marker}
use Rattle.marker_codec.specs.declared.marker.Marker.TheVariants as marker
use Rattle.marker_codec.specs.declared.table.TheConstants.{SNAPSHOT_ID, SUBSCRIPTION_NAME}
use Rattle.marker_codec.specs.Markers.{IsMarkerText}
use Rattle.message_meta.specs.Known.{IsRest}
use Rattle.pb_fields.specs.declared.field.Field.{Field}
use Rattle.pb_fields.specs.declared.field.Value.{Value}
use Rattle.pb_fields.specs.declared.field.Value.TheVariants as value
use Rattle.pb_fields.specs.Message.{last_value, values}
use Rattle.pb_fields.specs.Text.{IsFieldText, IsText, IsValue, end, next}
use Rattle.pb_fields.specs.Text as text
use Rattle.pulsar_commands.specs.declared.command.Command.{Command}
use Rattle.pulsar_commands.specs.declared.command.Command.TheVariants as command
use Rattle.pulsar_frames.specs.declared.frame.Body.{Body}
use Rattle.broker_plans.specs.Storable.{HasText, IsReadEntry, IsReadFrame, first_text}
use Rattle.frame_values.specs.Standing.{Reads, text as told, no_text}
use Rattle.frame_values.specs.Texts.{unread_bytes}
use Rattle.frame_values.specs.Values.{IsContent, no_marker, canonical, foreign, unread, IsEntryOf, Says, carrying, placed_marker, simple_frame}

-- ---- what a field holds stands in the text

-- the bytes that a value holds
abbrev held : Value → ℕ
held (value.Varint n) = 0
held (value.Fixed64 n) = 0
held (value.Bytes content) = length content
held (value.Fixed32 n) = 0

value_within : {bytes : List ℕ} {v : Value} → IsValue bytes v → held v ≤ length bytes
value_within (text.varint h) = omega arith
value_within (text.fixed64 fits is) = omega arith
value_within {bytes = bytes} (text.bytes {content = content} h) = rw h.parts (omega (arith, length-append h.text content))
value_within (text.fixed32 fits is) = omega arith

field_within : (bytes : List ℕ) (f : Field) → IsFieldText bytes f → held f.value ≤ length bytes
field_within bytes f h =
    let inner : held f.value ≤ length h.value = value_within h.value_is in
    rw h.tag.parts (omega (arith, length-append h.tag.text h.value, inner))

fields_within : (most : ℕ) {bytes : List ℕ} {fs : List Field} → IsText bytes fs → length bytes ≤ most → AllByRecursion (λ (f : Field). held f.value ≤ most) fs
fields_within most end short = tt
fields_within most {bytes = bytes} (next {rest = rest} {f = f} t h) short =
    let all : length bytes ≡ length t.text + length rest = ap (λ (k : List ℕ). length k) t.parts ∙ length-append t.text rest in
    let first : held f.value ≤ length t.text = field_within t.text f t.field in
    (omega (arith, all, first, short), fields_within most h (omega (arith, all, short)))

values_by : (most : ℕ) (f : Field) (fs : List Field) (t : Bool) → held f.value ≤ most → AllByRecursion (λ (v : Value). held v ≤ most) (map (λ (g : Field). g.value) fs)
    → AllByRecursion (λ (v : Value). held v ≤ most) (map (λ (g : Field). g.value) (if t then f ∷ fs else fs))
values_by most f fs true first rest = (first, rest)
values_by most f fs false first rest = rest

values_within : (most n : ℕ) (fs : List Field) → AllByRecursion (λ (f : Field). held f.value ≤ most) fs → AllByRecursion (λ (v : Value). held v ≤ most) (values n fs)
values_within most n [] all = tt
values_within most n (f ∷ fs) all = values_by most f (filter (λ (g : Field). g.number == n) fs) (f.number == n) all.0 (values_within most n fs all.1)

last_within : (most : ℕ) (vs : List Value) (o : Option Value) → IfSome o (λ v. held v ≤ most) → AllByRecursion (λ (v : Value). held v ≤ most) vs → IfSome (last_or o vs) (λ v. held v ≤ most)
last_within most [] o h all = h
last_within most (v ∷ vs) o h all = last_within most vs (Some v) all.0 all.1

-- the last value of a number
holds_within : (bytes : List ℕ) (fs : List Field) (n : ℕ) (c : List ℕ) → IsText bytes fs → last_value n fs ≡ Some (value.Bytes c) → length c ≤ length bytes
holds_within bytes fs n c h is =
    subst (λ (o : Option Value). IfSome o (λ v. held v ≤ length bytes)) is
    (last_within (length bytes) (values n fs) None tt (values_within (length bytes) n fs (fields_within (length bytes) h (omega arith))))

-- ---- markers

marker_within : (names : List (List ℕ)) (number : ℕ) (bytes : List ℕ) (m : Marker) → IsMarkerText number bytes m → length (first_text (placed_marker names m)) ≤ length bytes
marker_within names number bytes (marker.Request id source) h = holds_within bytes h.fields SNAPSHOT_ID id h.text h.means.says.snapshot_id
marker_within names number bytes (marker.Response id answer) h = holds_within bytes h.fields SNAPSHOT_ID id h.text h.means.says.snapshot_id
marker_within names number bytes (marker.Snapshot id local remote) h = holds_within bytes h.fields SNAPSHOT_ID id h.text h.means.says.snapshot_id
marker_within names number bytes (marker.Update n remote) h = holds_within bytes h.fields SUBSCRIPTION_NAME n h.text h.means.says.subscription_name

has_text : (m : MachineMarker) (payload : List ℕ) → length (first_text m) ≤ length payload → HasText (content.Marked m) payload
has_text m [] h = tt
has_text m (b ∷ bs) h = h

as_content : (c d : Content) (kept payload : List ℕ) → c ≡ d → kept ≡ payload → HasText d payload → HasText c kept
as_content c d kept payload is same h = rw (is, same) h

pub content_has : (names : List (List ℕ)) (number : Option ℕ) (payload : List ℕ) (c : Content) (kept : List ℕ) → IsContent names number payload c kept → HasText c kept
content_has names number payload c kept (no_marker none is same) = as_content c content.Data kept payload is same tt
content_has names number payload c kept (unread k some not is same) = as_content c (content.Unread k) kept payload is same tt
content_has names number payload c kept (canonical k m some says text is same) = as_content c (content.Marked (placed_marker names m)) kept [] is same tt
content_has names number payload c kept (foreign k m some says other is same) =
    as_content c (content.Marked (placed_marker names m)) kept payload is same (has_text (placed_marker names m) payload (marker_within names k payload m says))

-- ---- frames

entry_read : (names : List (List ℕ)) (b : Body) (source : Option ClusterRef) (e : Entry) → IsEntryOf names b source e → IsRest e.meta.rest → IsReadEntry e
entry_read names b source e says rest = record { rest = rest; marker = content_has names b.meta.marker b.payload e.content e.payload says.content }

simple_read : (c : Command) → IsReadFrame (simple_frame c)
simple_read (command.Connect version protocol) = tt
simple_read (command.Connected version protocol) = tt
simple_read (command.Subscribe topic sub kind id request consumer earliest replicated) = tt
simple_read (command.Producer topic id request name) = tt
simple_read (command.Send id seq messages) = tt
simple_read (command.SendReceipt id seq position) = tt
simple_read (command.SendError id seq code message) = tt
simple_read (command.Message id position) = tt
simple_read (command.Ack id kind positions) = tt
simple_read (command.Flow id permits) = tt
simple_read (command.Unsubscribe id request) = tt
simple_read (command.Success request) = tt
simple_read (command.Error request code message) = tt
simple_read (command.CloseProducer id request) = tt
simple_read (command.CloseConsumer id request) = tt
simple_read (command.ProducerSuccess request name) = tt
simple_read command.Ping = tt
simple_read command.Pong = tt

carried_read : (names : List (List ℕ)) (b : Body) (c : Command) (source : Option ClusterRef) (e : Entry) → IsEntryOf names b source e → IsRest (unread_bytes (carrying c source e)) → IsReadFrame (carrying c source e)
carried_read names b (command.Connect version protocol) source e says rest = tt
carried_read names b (command.Connected version protocol) source e says rest = tt
carried_read names b (command.Subscribe topic sub kind id request consumer earliest replicated) source e says rest = tt
carried_read names b (command.Producer topic id request name) source e says rest = tt
carried_read names b (command.Send id seq messages) source e says rest = entry_read names b source e says rest
carried_read names b (command.SendReceipt id seq position) source e says rest = tt
carried_read names b (command.SendError id seq code message) source e says rest = tt
carried_read names b (command.Message id position) source e says rest = entry_read names b source e says rest
carried_read names b (command.Ack id kind positions) source e says rest = tt
carried_read names b (command.Flow id permits) source e says rest = tt
carried_read names b (command.Unsubscribe id request) source e says rest = tt
carried_read names b (command.Success request) source e says rest = tt
carried_read names b (command.Error request code message) source e says rest = tt
carried_read names b (command.CloseProducer id request) source e says rest = tt
carried_read names b (command.CloseConsumer id request) source e says rest = tt
carried_read names b (command.ProducerSuccess request name) source e says rest = tt
carried_read names b command.Ping source e says rest = tt
carried_read names b command.Pong source e says rest = tt

frame_read : (names : List (List ℕ)) (c : Command) (o : Option Body) (f : Frame) → Says names c o f → IsRest (unread_bytes f) → IsReadFrame f
frame_read names c None f is rest = rw is (simple_read c)
frame_read names c (Some b) f carries rest =
    subst (λ (g : Frame). IsReadFrame g) (sym carries.is)
    (carried_read names b c carries.source carries.entry carries.says (subst (λ (g : Frame). IsRest (unread_bytes g)) carries.is rest))

pub reads_frame : (names : List (List ℕ)) (bytes : List ℕ) (f : Frame) → Reads names bytes f → IsRest (unread_bytes f) → IsReadFrame f
reads_frame names bytes f (told w is says) rest = frame_read names w.command w.body f says rest
reads_frame names bytes f (no_text none is) rest = rw is tt
