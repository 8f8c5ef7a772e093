-- What an entry is, as the code finds it.
use Rattle.std.proofs.Common.{◌≡◌, ◌≢◌, ℕ, List, [], refl, sym, ◌∙◌}
use Rattle.std.specs.Prelude.{Some}
use Rattle.geo_base.specs.declared.entry.Content.TheVariants as content
use Rattle.marker_codec.specs.declared.fault.MarkerFault.{MarkerFault}
use Rattle.marker_codec.specs.declared.fault.MarkerFault.TheVariants as why
use Rattle.marker_codec.specs.declared.marker.Marker.{Marker}
use Rattle.marker_codec.specs.Canonical.{canonical_fields}
use Rattle.marker_codec.specs.Faults.{IsWrongOrMemory, WrongMarker}
use Rattle.marker_codec.specs.Markers.{IsMarkerText}
use Rattle.marker_codec.proofs.Meaning.{fault_sound}
use Rattle.pb_fields.specs.Canonical.{text}
use Rattle.frame_values.specs.Values.{IsContent, canonical, foreign, unread, placed_marker}

is_unread : (names : List (List ℕ)) (k : ℕ) (payload : List ℕ) (e : MarkerFault) → WrongMarker k payload e → IsContent names (Some k) payload (content.Unread k) payload
is_unread names k payload e wrong = unread k refl (λ m h. fault_sound k payload m e h wrong) refl refl

pub wrong_unread : (names : List (List ℕ)) (k : ℕ) (payload : List ℕ) (e : MarkerFault) → IsWrongOrMemory (WrongMarker k payload) e → e ≢ why.Memory
    → IsContent names (Some k) payload (content.Unread k) payload
wrong_unread names k payload why.Memory h ne = absurd (ne refl)
wrong_unread names k payload (why.UnknownKind n) h ne = is_unread names k payload (why.UnknownKind n) h
wrong_unread names k payload (why.Pb x) h ne = is_unread names k payload (why.Pb x) h
wrong_unread names k payload (why.WrongWire n) h ne = is_unread names k payload (why.WrongWire n) h
wrong_unread names k payload (why.NotText n) h ne = is_unread names k payload (why.NotText n) h
wrong_unread names k payload (why.Missing n) h ne = is_unread names k payload (why.Missing n) h

pub read_canonical : (names : List (List ℕ)) (k : ℕ) (payload bytes : List ℕ) (m : Marker) → IsMarkerText k payload m → bytes ≡ text (canonical_fields m) → bytes ≡ payload
    → IsContent names (Some k) payload (content.Marked (placed_marker names m)) []
read_canonical names k payload bytes m h is same = canonical k m refl h (sym same ∙ is) refl refl

pub read_foreign : (names : List (List ℕ)) (k : ℕ) (payload bytes : List ℕ) (m : Marker) → IsMarkerText k payload m → bytes ≡ text (canonical_fields m) → bytes ≢ payload
    → IsContent names (Some k) payload (content.Marked (placed_marker names m)) payload
read_foreign names k payload bytes m h is other = foreign k m refl h (λ e. other (is ∙ sym e)) refl refl
