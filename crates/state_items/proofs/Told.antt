-- The texts of an entry say it.
use Rattle.std.proofs.Common.{ℕ, List, [], ◌∷◌, refl, sym, ap}
use Rattle.geo_base.specs.declared.entry.Content.{Content}
use Rattle.geo_base.specs.declared.entry.Content.TheVariants as content
use Rattle.geo_base.specs.declared.entry.Entry.{Entry}
use Rattle.geo_base.specs.Sizes.{marker_type}
use Rattle.marker_codec.specs.Machine.{named_marker}
use Rattle.message_meta.specs.Metadata.{Metadata}
use Rattle.state_items.specs.EntryTexts.{HasTexts, source_of}
use Rattle.state_items.specs.Told.{IsSaid, IsTold}
use Rattle.frame_values.specs.Coded.{IsMarkerRight}
use Rattle.frame_values.specs.Texts.{marker_number, metadata_of, payload_text}
use Rattle.frame_values.specs.Told.{IsToldContent}
use Rattle.frame_values.specs.Values.{IsContent, canonical}

content_said : (names : List (List ℕ)) (c : Content) (payload : List ℕ) → IsMarkerRight names c payload → IsToldContent names c payload → IsContent names (marker_number c) (payload_text names c payload) c payload
content_said names content.Data payload right h = h
content_said names (content.Unread k) payload right h = h
content_said names (content.Marked m) [] right h = canonical (marker_type m) (named_marker names m) refl right refl (ap content.Marked (sym h)) refl
content_said names (content.Marked m) (b ∷ bs) right h = h

pub said : (names : List (List ℕ)) (own : ℕ) (e : Entry) (h : HasTexts names own e) → IsTold names own e → IsSaid names own e (metadata_of names (source_of own e.ident.origin) e h.metadata.fields)
said names own e h t = record {
  text = h.metadata.text;
  origin = t.from;
  producer = refl;
  seq = refl;
  stored = record {
    origin = refl;
    producer = refl;
    seq = refl;
    publish_time = refl;
    key = refl;
    listed = refl;
    to = t.to;
    rest = h.metadata.rest;
    content = content_said names e.content e.payload h.marker t.content;
  };
}

pub some_said : (names : List (List ℕ)) (own : ℕ) (e : Entry) → HasTexts names own e → IsTold names own e → (m : Metadata) × IsSaid names own e m
some_said names own e h t = (metadata_of names (source_of own e.ident.origin) e h.metadata.fields, said names own e h t)
