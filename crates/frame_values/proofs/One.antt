-- Bytes say one value, and a value's canonical text says it.
use Rattle.std.proofs.Common.{◌≡◌, ℕ, List, [], ◌∷◌, refl, sym, ◌∙◌, ap, subst}
use Rattle.std.specs.Prelude.{Option, Some, None}
use Rattle.geo_base.specs.declared.entry.Content.{Content}
use Rattle.geo_base.specs.declared.entry.Content.TheVariants as content
use Rattle.geo_base.specs.declared.entry.Entry.{Entry}
use Rattle.geo_base.specs.declared.entry.Targets.{Targets}
use Rattle.geo_base.specs.declared.frame.Frame.{Frame}
use Rattle.geo_base.specs.declared.frame.Frame.TheVariants as frame
use Rattle.geo_base.specs.declared.marker.ClusterRef.{ClusterRef}
use Rattle.geo_base.specs.Entry.{with_origin}
use Rattle.marker_codec.specs.declared.marker.Marker.{Marker}
use Rattle.marker_codec.specs.Canonical.{canonical_fields}
use Rattle.marker_codec.specs.Markers.{IsMarkerText}
use Rattle.marker_codec.proofs.Meaning.{marker_one}
use Rattle.pb_fields.specs.declared.field.Field.{Field}
use Rattle.pb_fields.specs.Canonical.{text}
use Rattle.pulsar_commands.specs.declared.command.Command.{Command}
use Rattle.pulsar_frames.specs.declared.frame.Body.{Body}
use Rattle.pulsar_frames.specs.declared.frame.Frame.{Frame as WireFrame}
use Rattle.pulsar_frames.proofs.OneFrame.{text_one}
use Rattle.geo_base.specs.Sizes.{marker_type}
use Rattle.marker_codec.specs.Machine.{named_marker}
use Rattle.frame_values.specs.Coded.{IsEntryRight, IsMarkerRight, IsWritten}
use Rattle.frame_values.specs.Standing.{Reads, text as told, no_text, StandFor, bare}
use Rattle.frame_values.specs.Texts.{body_of, marker_number, payload_text, unread_bytes, wire_frame}
use Rattle.frame_values.specs.Told.{IsTold, IsToldContent, IsToldEntry}
use Rattle.frame_values.specs.Values.{IsContent, no_marker, canonical, foreign, unread, IsEntryOf, Says, SaysValue, carrying, placed_marker}
use Rattle.geo_base.proofs.Results.{none_not_some, some_number}

-- ---- one value

same_marker : (payload : List ℕ) (j k : ℕ) (m n : Marker) → j ≡ k → IsMarkerText j payload m → IsMarkerText k payload n → m ≡ n
same_marker payload j k m n e h i = marker_one k payload m n (subst (λ (x : ℕ). IsMarkerText x payload m) e h) i

-- the same content and the same payload
both_same : {names : List (List ℕ)} {number : Option ℕ} {payload : List ℕ} {c d : Content} {p q : List ℕ}
    → IsContent names number payload c p → IsContent names number payload d q → (c ≡ d) × (p ≡ q)
both_same (no_marker n c p) (no_marker n' d q) = (c ∙ sym d, p ∙ sym q)
both_same (no_marker n c p) (unread k n' not d q) = absurd (none_not_some (sym n ∙ n'))
both_same (no_marker n c p) (canonical k m n' is t d q) = absurd (none_not_some (sym n ∙ n'))
both_same (no_marker n c p) (foreign k m n' is t d q) = absurd (none_not_some (sym n ∙ n'))
both_same (unread j n not c p) (no_marker n' d q) = absurd (none_not_some (sym n' ∙ n))
both_same (unread j n not c p) (unread k n' not' d q) = (c ∙ ap content.Unread (some_number j k (sym n ∙ n')) ∙ sym d, p ∙ sym q)
both_same {payload = payload} (unread j n not c p) (canonical k m n' is t d q) = absurd (not m (subst (λ (x : ℕ). IsMarkerText x payload m) (some_number k j (sym n' ∙ n)) is))
both_same {payload = payload} (unread j n not c p) (foreign k m n' is t d q) = absurd (not m (subst (λ (x : ℕ). IsMarkerText x payload m) (some_number k j (sym n' ∙ n)) is))
both_same (canonical j m n is t c p) (no_marker n' d q) = absurd (none_not_some (sym n' ∙ n))
both_same {payload = payload} (canonical j m n is t c p) (unread k n' not d q) = absurd (not m (subst (λ (x : ℕ). IsMarkerText x payload m) (some_number j k (sym n ∙ n')) is))
both_same {names = names} {payload = payload} (canonical j m n is t c p) (canonical k m' n' is' t' d q) =
    (c ∙ ap (λ (x : Marker). content.Marked (placed_marker names x)) (same_marker payload j k m m' (some_number j k (sym n ∙ n')) is is') ∙ sym d, p ∙ sym q)
both_same {payload = payload} (canonical j m n is t c p) (foreign k m' n' is' t' d q) =
    absurd (t' (t ∙ ap (λ (x : Marker). text (canonical_fields x)) (same_marker payload j k m m' (some_number j k (sym n ∙ n')) is is')))
both_same (foreign j m n is t c p) (no_marker n' d q) = absurd (none_not_some (sym n' ∙ n))
both_same {payload = payload} (foreign j m n is t c p) (unread k n' not d q) = absurd (not m (subst (λ (x : ℕ). IsMarkerText x payload m) (some_number j k (sym n ∙ n')) is))
both_same {payload = payload} (foreign j m n is t c p) (canonical k m' n' is' t' d q) =
    absurd (t (t' ∙ ap (λ (x : Marker). text (canonical_fields x)) (same_marker payload k j m' m (some_number k j (sym n' ∙ n)) is' is)))
both_same {names = names} {payload = payload} (foreign j m n is t c p) (foreign k m' n' is' t' d q) =
    (c ∙ ap (λ (x : Marker). content.Marked (placed_marker names x)) (same_marker payload j k m m' (some_number j k (sym n ∙ n')) is is') ∙ sym d, p ∙ sym q)

-- an entry by its parts
abbrev entry_by : ℕ → List ℕ → ℕ → Content → Targets → ℕ → Option (List ℕ) → List (List ℕ) → List ℕ → List ℕ → Entry
entry_by origin producer seq c to time key names rest payload = record {
  ident = record { origin = origin; producer = producer; seq = seq };
  content = c;
  to = to;
  meta = record { publish_time = time; key = key; names = names; rest = rest };
  payload = payload;
}

all_same : {o o' : ℕ} {p p' : List ℕ} {s s' : ℕ} {c c' : Content} {to to' : Targets} {t t' : ℕ} {k k' : Option (List ℕ)} {n n' : List (List ℕ)} {r r' : List ℕ} {y y' : List ℕ}
    → o ≡ o' → p ≡ p' → s ≡ s' → c ≡ c' → to ≡ to' → t ≡ t' → k ≡ k' → n ≡ n' → r ≡ r' → y ≡ y' → entry_by o p s c to t k n r y ≡ entry_by o' p' s' c' to' t' k' n' r' y'
all_same a b c d e f g h i j = rw (a, b, c, d, e, f, g, h, i, j) refl

entry_one : (names : List (List ℕ)) (b : Body) (s r : Option ClusterRef) (e f : Entry) → IsEntryOf names b s e → IsEntryOf names b r f → e ≡ f
entry_one names b s r e f h k =
    let c = both_same h.content k.content in
    all_same (h.origin ∙ sym k.origin) (h.producer ∙ sym k.producer) (h.seq ∙ sym k.seq) c.0 (h.to ∙ sym k.to) (h.publish_time ∙ sym k.publish_time) (h.key ∙ sym k.key) (h.listed ∙ sym k.listed) (h.rest ∙ sym k.rest) c.1

carried_same : (c : Command) (s r : Option ClusterRef) (e f : Entry) → s ≡ r → e ≡ f → carrying c s e ≡ carrying c r f
carried_same c s r e f a b = rw (a, b) refl

says_one : (names : List (List ℕ)) (c : Command) (o : Option Body) (f g : Frame) → Says names c o f → Says names c o g → f ≡ g
says_one names c None f g h k = h ∙ sym k
says_one names c (Some b) f g h k =
    h.is ∙ carried_same c h.source k.source h.entry k.entry (h.says.from ∙ sym k.says.from) (entry_one names b h.source k.source h.entry k.entry h.says k.says) ∙ sym k.is

pub value_one : (names : List (List ℕ)) (bytes : List ℕ) (f g : Frame) → Reads names bytes f → Reads names bytes g → f ≡ g
value_one names bytes f g (told w is says) (told v is' says') =
    says_one names v.command v.body f g (subst (λ (x : WireFrame). SaysValue names x f) (text_one bytes w v is is') says) says'
value_one names bytes f g (told w is says) (no_text none e) = absurd (none w is)
value_one names bytes f g (no_text none e) (told v is' says') = absurd (none v is')
value_one names bytes f g (no_text none e) (no_text none' e') = e ∙ sym e'

-- ---- the canonical text

-- what the entry is stands in its text
content_said : (names : List (List ℕ)) (c : Content) (payload : List ℕ) → IsMarkerRight names c payload → IsToldContent names c payload → IsContent names (marker_number c) (payload_text names c payload) c payload
content_said names content.Data payload right h = h
content_said names (content.Unread k) payload right h = h
content_said names (content.Marked m) [] right h = canonical (marker_type m) (named_marker names m) refl right refl (ap content.Marked (sym h)) refl
content_said names (content.Marked m) (b ∷ bs) right h = h

entry_said : (names : List (List ℕ)) (source : Option ClusterRef) (e : Entry) (rest : List Field) → e.meta.rest ≡ text rest → IsMarkerRight names e.content e.payload → IsToldEntry names source e
    → IsEntryOf names (body_of names source e rest) source (with_origin 0 e)
entry_said names source e rest kept right h = record {
  origin = refl;
  producer = refl;
  seq = refl;
  publish_time = refl;
  from = h.from;
  key = refl;
  listed = refl;
  to = h.to;
  rest = kept;
  content = content_said names e.content e.payload right h.content;
}

said : (names : List (List ℕ)) (rest : List Field) (f : Frame) → unread_bytes f ≡ text rest → IsEntryRight names f → IsTold names f → SaysValue names (wire_frame names rest f) (bare f)
said names rest frame.Connect kept right h = refl
said names rest frame.Connected kept right h = refl
said names rest (frame.Subscribe topic sub kind id request consumer earliest replicated) kept right h = refl
said names rest (frame.Producer topic id request name) kept right h = refl
said names rest (frame.Send id seq source e) kept right h = record { source = source; entry = with_origin 0 e; is = refl; says = entry_said names source e rest kept right h }
said names rest (frame.SendReceipt id seq position) kept right h = refl
said names rest (frame.SendError id seq code) kept right h = refl
said names rest (frame.Message id position source e) kept right h = record { source = source; entry = with_origin 0 e; is = refl; says = entry_said names source e rest kept right h }
said names rest (frame.Ack id kind positions) kept right h = refl
said names rest (frame.Flow id permits) kept right h = refl
said names rest (frame.Unsubscribe id request) kept right h = refl
said names rest (frame.Success request) kept right h = refl
said names rest (frame.Error request code) kept right h = refl
said names rest (frame.CloseProducer id request) kept right h = refl
said names rest (frame.CloseConsumer id request) kept right h = refl
said names rest (frame.ProducerSuccess request name) kept right h = refl
said names rest frame.Ping kept right h = refl
said names rest frame.Pong kept right h = refl
said names rest frame.Unreadable kept right h = absurd h

-- what was written stands for the frame
pub written_stands : (names : List (List ℕ)) (f : Frame) (bytes : List ℕ) → IsWritten names f bytes → IsTold names f → StandFor names bytes f
written_stands names f bytes h t = told (wire_frame names h.rest f) h.is_text (said names h.rest f h.kept h.marker t)
