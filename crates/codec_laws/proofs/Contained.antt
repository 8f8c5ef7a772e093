-- Any payload of an entry is some content.
use Rattle.std.proofs.Common.{ℕ, List, [], Option, Some, None, refl, inl, inr}
use Rattle.std.specs.Str.{bytes_eq}
use Rattle.std.proofs.lemmas.Bool.{cases_Bool}
use Rattle.std.proofs.lemmas.Slice.Eq.{bytes_eq-Decides}
use Rattle.geo_base.specs.declared.entry.Content.TheVariants as content
use Rattle.marker_codec.specs.Canonical.{canonical_fields}
use Rattle.marker_codec.proofs.Meaning.{fault_sound}
use Rattle.pb_fields.specs.Canonical.{text}
use Rattle.frame_values.specs.Values.{no_marker, unread, canonical, foreign, placed_marker}
use Rattle.codec_laws.specs.Answers.{AreBytes, right, wrong}
use Rattle.codec_laws.specs.Contents.{HasContent}
use Rattle.codec_laws.proofs.Markers.{MarkerAnswer, marker_answer}

of_marker : (names : List (List ℕ)) (k : ℕ) (payload : List ℕ) → MarkerAnswer k payload → HasContent names (Some k) payload
of_marker names k payload (wrong e h) = record { content = content.Unread k; kept = payload; is = unread k refl (λ m is. fault_sound k payload m e is h) refl refl }
of_marker names k payload (right m h) =
    elim (cases_Bool (bytes_eq payload (text (canonical_fields m)))) [
      | inl same ↦ record { content = content.Marked (placed_marker names m); kept = []; is = canonical k m refl h ((bytes_eq-Decides payload (text (canonical_fields m))).0 same) refl refl }
      | inr other ↦ record {
        content = content.Marked (placed_marker names m);
        kept = payload;
        is = foreign k m refl h (λ e. let same = (bytes_eq-Decides payload (text (canonical_fields m))).1 e in cc) refl refl;
      }
    ]

pub content_answer : (names : List (List ℕ)) (number : Option ℕ) (payload : List ℕ) → AreBytes payload → HasContent names number payload
content_answer names None payload are = record { content = content.Data; kept = payload; is = no_marker refl refl refl }
content_answer names (Some k) payload are = of_marker names k payload (marker_answer k payload are)
