-- What the words of an entry say reads back.
use Rattle.std.proofs.Common.{◌≡◌, ℕ, ◌^◌, ◌<◌, Bool, true, false, List, [], ◌∷◌, ◌++◌, length, map, Option, Some, None, codes, refl, sym, ◌∙◌, subst, append-nil}
use Rattle.std.specs.List.{list_all}
use Rattle.std.proofs.lemmas.Bool.{and_from}
use Rattle.std.proofs.lemmas.List.Folds.{list_all-append}
use Rattle.geo_base.specs.declared.entry.Content.{Content}
use Rattle.geo_base.specs.declared.entry.Content.TheVariants as content
use Rattle.geo_base.specs.declared.entry.Entry.{Entry}
use Rattle.geo_base.specs.declared.marker.ClusterPosition.{ClusterPosition}
use Rattle.geo_base.specs.declared.marker.Marker.{Marker}
use Rattle.geo_base.specs.declared.marker.Marker.TheVariants as marker
use Rattle.geo_base.specs.declared.position.Position.{Position}
use Rattle.geo_base.specs.Client.{target_names}
use Rattle.geo_base.specs.Name.{is_name}
use Rattle.geo_base.specs.Report.{printed, shown_cluster_position, shown_key, shown_marker, shown_position}
use Rattle.geo_base.specs.Scripted.{names_some}
use Rattle.geo_base.specs.TraceText.{shown_by}
use Rattle.script_rows.specs.NameWords.{Word}
use Rattle.script_rows.specs.Words.{words_of}
use Rattle.script_rows.specs.Written.{AreNames}
use Rattle.trace_lines.specs.Entries.{cluster_positions_of, marked, told_positions_of, what_of}
use Rattle.trace_lines.specs.Words.{is_printable}
use Rattle.trace_lines.proofs.Told.{data_words}
use Rattle.world_laws.specs.Plain.{IsCluster}
use Rattle.world_laws.proofs.Replicating.Effects.{Each}
use Rattle.world_laws.proofs.Snapshotting.Ids.{IsSmall}
use Rattle.trace_laws.proofs.Words.{IsKey, IsTold, cluster_position_back, cluster_position_plain, is_plain, is_token, key_back, name_back, name_plain, no_by, place_back, place_plain, position_back, position_plain, printed_plain, printed_same, text_back, token_plain}

-- ---- what a line can tell

abbrev pub IsToldMarker : List Word → Marker → Type 0
IsToldMarker names (marker.Request id source) = (is_token id ≡ true) × IsCluster names source
IsToldMarker names (marker.Response id answer) = (is_token id ≡ true) × IsTold names answer
IsToldMarker names (marker.Snapshot id local remote) = (is_token id ≡ true) × IsSmall local × Each (IsTold names) remote
IsToldMarker names (marker.Update sub remote) = (is_name sub ≡ true) × Each (IsTold names) remote

abbrev pub IsToldContent : List Word → Option Word → List ℕ → Content → Type 0
IsToldContent names key payload content.Data = IsKey key × (list_all is_printable payload ≡ true)
IsToldContent names key payload (content.Marked m) = (key ≡ None) × (payload ≡ []) × IsToldMarker names m
IsToldContent names key payload (content.Unread k) = ⊥

pub record IsToldEntry (names : List Word) (e : Entry) : Type 0 where
  pub origin : e.ident.origin < length names
  pub producer : is_token e.ident.producer ≡ true
  pub seq : e.ident.seq < 2 ^ 64
  pub to : names_some (length names) e.to ≡ true
  pub publish_time : e.meta.publish_time ≡ 0
  pub listed : e.meta.names ≡ target_names 0 e.to names
  pub rest : e.meta.rest ≡ []
  pub content : IsToldContent names e.meta.key e.payload e.content

-- the line of an own update says which snapshot it tells, and no other line does
abbrev pub IsBy : Content → Bool → Option Position → Type 0
IsBy (content.Marked (marker.Update n remote)) true by = (p : Position) × (by ≡ Some p) × IsSmall p
IsBy c own by = by ≡ None

-- ---- positions of clusters
positions_back : (names : List Word) (rs : List ClusterPosition) → AreNames names → Each (IsTold names) rs → cluster_positions_of names (map (shown_cluster_position names) rs) ≡ Some rs
positions_back names [] are h = refl
positions_back names (r ∷ rs) are h = rw (cluster_position_back names r are h.0, positions_back names rs are h.1) refl

told_back : (names : List Word) (rs : List ClusterPosition) (p : Position) → AreNames names → Each (IsTold names) rs → IsSmall p
    → told_positions_of names (map (shown_cluster_position names) rs ++ codes "by" ∷ shown_position p ∷ []) ≡ Some (record { remote = rs; by = p })
told_back names [] p are h small = rw (position_back p small) refl
told_back names (r ∷ rs) p are h small = rw (no_by names r are h.0, cluster_position_back names r are h.0, told_back names rs p are h.1 small) refl

positions_plain : (names : List Word) (rs : List ClusterPosition) → AreNames names → Each (IsTold names) rs → list_all is_plain (map (shown_cluster_position names) rs) ≡ true
positions_plain names [] are h = refl
positions_plain names (r ∷ rs) are h =
    and_from (is_plain (shown_cluster_position names r)) (list_all is_plain (map (shown_cluster_position names) rs)) (cluster_position_plain names r are h.0) (positions_plain names rs are h.1)

-- ---- markers
abbrev pub marker_words : List Word → Marker → Option Position → List Word
marker_words names m by = shown_marker names m ++ shown_by by

abbrev IsMarkerBack : List Word → Bool → Marker → Option Position → Type 0
IsMarkerBack names own m by = what_of names own (marker_words names m by) ≡ Some (marked (content.Marked m) by)

with_none : (P : Option Position → Type 0) (by : Option Position) → by ≡ None → P None → P by
with_none P by none h = subst P (sym none) h

pub marker_back : (names : List Word) (own : Bool) (m : Marker) (by : Option Position) → AreNames names → IsToldMarker names m → IsBy (content.Marked m) own by → IsMarkerBack names own m by
marker_back names own (marker.Request id source) by are h none =
    with_none (IsMarkerBack names own (marker.Request id source)) by none (rw (text_back id h.0, place_back names source are h.1) refl)
marker_back names own (marker.Response id answer) by are h none =
    with_none (IsMarkerBack names own (marker.Response id answer)) by none (rw (text_back id h.0, cluster_position_back names answer are h.1) refl)
marker_back names own (marker.Snapshot id local remote) by are h none =
    with_none (IsMarkerBack names own (marker.Snapshot id local remote)) by none
    (rw (append-nil (map (shown_cluster_position names) remote), text_back id h.0, position_back local h.1, positions_back names remote are h.2) refl)
marker_back names true (marker.Update sub remote) by are h (p, is, small) =
    subst (IsMarkerBack names true (marker.Update sub remote)) (sym is) (rw (name_back sub h.0, told_back names remote p are h.1 small) refl)
marker_back names false (marker.Update sub remote) by are h none =
    with_none (IsMarkerBack names false (marker.Update sub remote)) by none
    (rw (append-nil (map (shown_cluster_position names) remote), name_back sub h.0, positions_back names remote are h.1) refl)

text_plain : (t : List ℕ) → is_token t ≡ true → is_plain (printed t) ≡ true
text_plain t is = rw (printed_plain t (token_plain t is)) (token_plain t is)

shown_plain : (names : List Word) (m : Marker) → AreNames names → IsToldMarker names m → list_all is_plain (shown_marker names m) ≡ true
shown_plain names (marker.Request id source) are h = rw (text_plain id h.0, place_plain names source are h.1) refl
shown_plain names (marker.Response id answer) are h = rw (text_plain id h.0, cluster_position_plain names answer are h.1) refl
shown_plain names (marker.Snapshot id local remote) are h = rw (text_plain id h.0, position_plain local h.1, positions_plain names remote are h.2) refl
shown_plain names (marker.Update sub remote) are h = rw (printed_plain sub (name_plain sub h.0), name_plain sub h.0, positions_plain names remote are h.1) refl

by_none : (by : Option Position) → by ≡ None → list_all is_plain (shown_by by) ≡ true
by_none by none = with_none (λ o. list_all is_plain (shown_by o) ≡ true) by none refl

by_plain : (own : Bool) (m : Marker) (by : Option Position) → IsBy (content.Marked m) own by → list_all is_plain (shown_by by) ≡ true
by_plain own (marker.Request id source) by none = by_none by none
by_plain own (marker.Response id answer) by none = by_none by none
by_plain own (marker.Snapshot id local remote) by none = by_none by none
by_plain true (marker.Update sub remote) by (p, is, small) =
    subst (λ (o : Option Position). list_all is_plain (shown_by o) ≡ true) (sym is) (rw (position_plain p small) refl)
by_plain false (marker.Update sub remote) by none = by_none by none

pub marker_plain : (names : List Word) (own : Bool) (m : Marker) (by : Option Position) → AreNames names → IsToldMarker names m → IsBy (content.Marked m) own by
    → list_all is_plain (marker_words names m by) ≡ true
marker_plain names own m by are h told =
    rw (list_all-append is_plain (shown_marker names m) (shown_by by))
    (and_from (list_all is_plain (shown_marker names m)) (list_all is_plain (shown_by by)) (shown_plain names m are h) (by_plain own m by told))

-- ---- messages
pub data_back : (names : List Word) (own : Bool) (key : Option Word) (payload : List ℕ) → IsKey key → list_all is_printable payload ≡ true
    → what_of names own (codes "data" ∷ shown_key key ∷ words_of (printed payload)) ≡ Some (record { content = content.Data; key = key; payload = payload; by = None })
data_back names own key payload k text =
    data_words (shown_key key) (printed payload) ∙ rw (key_back key k, printed_same payload text, text) refl
