-- Metadata and a payload are one entry.
use Rattle.std.proofs.Common.{◌≡◌, ℕ, List, refl, sym, ◌∙◌, ap, subst}
use Rattle.std.specs.Prelude.{Option}
use Rattle.geo_base.specs.declared.entry.Content.{Content}
use Rattle.geo_base.specs.declared.entry.Content.TheVariants as content
use Rattle.geo_base.specs.declared.entry.Entry.{Entry}
use Rattle.geo_base.specs.declared.entry.Targets.{Targets}
use Rattle.marker_codec.specs.declared.marker.Marker.{Marker}
use Rattle.marker_codec.specs.Canonical.{canonical_fields}
use Rattle.marker_codec.specs.Markers.{IsMarkerText}
use Rattle.marker_codec.proofs.Meaning.{marker_one}
use Rattle.message_meta.specs.Metadata.{Metadata}
use Rattle.pb_fields.specs.Canonical.{text}
use Rattle.state_items.specs.Stored.{IsStored}
use Rattle.frame_values.specs.Values.{IsContent, no_marker, canonical, foreign, unread, placed_marker}
use Rattle.geo_base.proofs.Results.{none_not_some, some_number}

same_marker : (payload : List ℕ) (j k : ℕ) (m n : Marker) → j ≡ k → IsMarkerText j payload m → IsMarkerText k payload n → m ≡ n
same_marker payload j k m n e h i = marker_one k payload m n (subst (λ (x : ℕ). IsMarkerText x payload m) e h) i

-- the same content and the same payload
both_same : {names : List (List ℕ)} {number : Option ℕ} {payload : List ℕ} {c d : Content} {p q : List ℕ}
    → IsContent names number payload c p → IsContent names number payload d q → (c ≡ d) × (p ≡ q)
both_same (no_marker n c p) (no_marker n' d q) = (c ∙ sym d, p ∙ sym q)
both_same (no_marker n c p) (unread k n' not d q) = absurd (none_not_some (sym n ∙ n'))
both_same (no_marker n c p) (canonical k m n' is t d q) = absurd (none_not_some (sym n ∙ n'))
both_same (no_marker n c p) (foreign k m n' is t d q) = absurd (none_not_some (sym n ∙ n'))
both_same (unread j n not c p) (no_marker n' d q) = absurd (none_not_some (sym n' ∙ n))
both_same (unread j n not c p) (unread k n' not' d q) = (c ∙ ap content.Unread (some_number j k (sym n ∙ n')) ∙ sym d, p ∙ sym q)
both_same {payload = payload} (unread j n not c p) (canonical k m n' is t d q) = absurd (not m (subst (λ (x : ℕ). IsMarkerText x payload m) (some_number k j (sym n' ∙ n)) is))
both_same {payload = payload} (unread j n not c p) (foreign k m n' is t d q) = absurd (not m (subst (λ (x : ℕ). IsMarkerText x payload m) (some_number k j (sym n' ∙ n)) is))
both_same (canonical j m n is t c p) (no_marker n' d q) = absurd (none_not_some (sym n' ∙ n))
both_same {payload = payload} (canonical j m n is t c p) (unread k n' not d q) = absurd (not m (subst (λ (x : ℕ). IsMarkerText x payload m) (some_number j k (sym n ∙ n')) is))
both_same {names = names} {payload = payload} (canonical j m n is t c p) (canonical k m' n' is' t' d q) =
    (c ∙ ap (λ (x : Marker). content.Marked (placed_marker names x)) (same_marker payload j k m m' (some_number j k (sym n ∙ n')) is is') ∙ sym d, p ∙ sym q)
both_same {payload = payload} (canonical j m n is t c p) (foreign k m' n' is' t' d q) =
    absurd (t' (t ∙ ap (λ (x : Marker). text (canonical_fields x)) (same_marker payload j k m m' (some_number j k (sym n ∙ n')) is is')))
both_same (foreign j m n is t c p) (no_marker n' d q) = absurd (none_not_some (sym n' ∙ n))
both_same {payload = payload} (foreign j m n is t c p) (unread k n' not d q) = absurd (not m (subst (λ (x : ℕ). IsMarkerText x payload m) (some_number j k (sym n ∙ n')) is))
both_same {payload = payload} (foreign j m n is t c p) (canonical k m' n' is' t' d q) =
    absurd (t (t' ∙ ap (λ (x : Marker). text (canonical_fields x)) (same_marker payload k j m' m (some_number k j (sym n' ∙ n)) is' is)))
both_same {names = names} {payload = payload} (foreign j m n is t c p) (foreign k m' n' is' t' d q) =
    (c ∙ ap (λ (x : Marker). content.Marked (placed_marker names x)) (same_marker payload j k m m' (some_number j k (sym n ∙ n')) is is') ∙ sym d, p ∙ sym q)

-- an entry by its parts
abbrev entry_by : ℕ → List ℕ → ℕ → Content → Targets → ℕ → Option (List ℕ) → List (List ℕ) → List ℕ → List ℕ → Entry
entry_by origin producer seq c to time key names rest payload = record {
  ident = record { origin = origin; producer = producer; seq = seq };
  content = c;
  to = to;
  meta = record { publish_time = time; key = key; names = names; rest = rest };
  payload = payload;
}

all_same : {o o' : ℕ} {p p' : List ℕ} {s s' : ℕ} {c c' : Content} {to to' : Targets} {t t' : ℕ} {k k' : Option (List ℕ)} {n n' : List (List ℕ)} {r r' : List ℕ} {y y' : List ℕ}
    → o ≡ o' → p ≡ p' → s ≡ s' → c ≡ c' → to ≡ to' → t ≡ t' → k ≡ k' → n ≡ n' → r ≡ r' → y ≡ y' → entry_by o p s c to t k n r y ≡ entry_by o' p' s' c' to' t' k' n' r' y'
all_same a b c d e f g h i j = rw (a, b, c, d, e, f, g, h, i, j) refl

pub stored_one : (names : List (List ℕ)) (m : Metadata) (origin : ℕ) (payload : List ℕ) (e f : Entry) → IsStored names m origin payload e → IsStored names m origin payload f → e ≡ f
stored_one names m origin payload e f h k =
    let c = both_same h.content k.content in
    all_same (h.origin ∙ sym k.origin) (h.producer ∙ sym k.producer) (h.seq ∙ sym k.seq) c.0 (h.to ∙ sym k.to) (h.publish_time ∙ sym k.publish_time) (h.key ∙ sym k.key) (h.listed ∙ sym k.listed) (h.rest ∙ sym k.rest) c.1
