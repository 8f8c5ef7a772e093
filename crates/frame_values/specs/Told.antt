-- Which values their canonical text tells: what the bytes don't say apart agrees with what they say.
use Rattle.std.specs.Prelude.{◌≡◌, ℕ, List, [], Option}
use Rattle.std.specs.Option.{option_map}
use Rattle.geo_base.specs.declared.entry.Content.{Content}
use Rattle.geo_base.specs.declared.entry.Content.TheVariants as content
use Rattle.geo_base.specs.declared.entry.Entry.{Entry}
use Rattle.geo_base.specs.declared.frame.Frame.{Frame}
use Rattle.geo_base.specs.declared.frame.Frame.TheVariants as frame
use Rattle.geo_base.specs.declared.marker.ClusterRef.{ClusterRef}
use Rattle.geo_base.specs.Sizes.{cluster_ref_name}
use Rattle.marker_codec.specs.Machine.{named_marker}
use Rattle.frame_values.specs.Texts.{marker_number}
use Rattle.frame_values.specs.Values.{IsContent, place_of, placed_marker, targets_of}

-- A marker that keeps no payload names places that its names tell; any other payload is one of what the entry is.
abbrev pub IsToldContent : List (List ℕ) → Content → List ℕ → Type 0
IsToldContent names (content.Marked m) [] = placed_marker names (named_marker names m) ≡ m
IsToldContent names c payload = IsContent names (marker_number c) payload c payload

-- The targets are those of the names, a number stands for a cluster that has its name, and the payload is kept exactly where it
-- is not its marker's canonical text.
pub record IsToldEntry (names : List (List ℕ)) (source : Option ClusterRef) (e : Entry) : Type 0 where
  pub to : e.to ≡ targets_of names e.meta.names
  pub from : source ≡ option_map (place_of names) (option_map (cluster_ref_name names) source)
  pub content : IsToldContent names e.content e.payload

abbrev pub IsTold : List (List ℕ) → Frame → Type 0
IsTold names (frame.Send id seq source e) = IsToldEntry names source e
IsTold names (frame.Message id position source e) = IsToldEntry names source e
IsTold names frame.Unreadable = ⊥
IsTold names f = Unit {0}
