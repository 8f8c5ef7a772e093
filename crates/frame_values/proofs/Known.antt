-- What a reader of bytes keeps of an entry is told by its texts: the clusters that a marker names, its number, and its payload.
use Rattle.std.proofs.Common.{◌≡◌, ◌≢◌, ℕ, suc, ◌+◌, ◌<◌, Bool, true, false, List, [], ◌∷◌, length, map, refl, sym, ap, ◌∙◌, arith}
use Rattle.std.specs.Prelude.{Option, Some, if◌then◌else◌, slice_index_or}
use Rattle.std.specs.Str.{bytes_eq}
use Rattle.std.proofs.lemmas.Slice.Eq.{bytes_eq-Decides}
use Rattle.geo_base.specs.declared.entry.Content.{Content}
use Rattle.geo_base.specs.declared.entry.Content.TheVariants as content
use Rattle.geo_base.specs.declared.marker.ClusterPosition.{ClusterPosition}
use Rattle.geo_base.specs.declared.marker.ClusterRef.TheVariants as cluster_ref
use Rattle.geo_base.specs.Sizes.{marker_type, cluster_ref_name}
use Rattle.marker_codec.specs.declared.marker.ClusterMessageId.{ClusterMessageId}
use Rattle.marker_codec.specs.declared.marker.Marker.{Marker}
use Rattle.marker_codec.specs.declared.marker.Marker.TheVariants as marker
use Rattle.marker_codec.specs.Canonical.{canonical_fields}
use Rattle.marker_codec.specs.Machine.{named_cluster, named_marker}
use Rattle.marker_codec.specs.Markers.{IsMarkerText}
use Rattle.pb_fields.specs.Canonical.{text}
use Rattle.frame_values.specs.Told.{IsToldContent}
use Rattle.frame_values.specs.Values.{IsContent, canonical, foreign, no_marker, place_from, place_of, placed_cluster, placed_marker, unread}

-- ---- names and places

-- a name's place has that name
name_from : (all ms : List (List ℕ)) (j : ℕ) (n : List ℕ) → ((i : ℕ) → i < length ms → slice_index_or all (j + i) [] ≡ slice_index_or ms i []) → cluster_ref_name all (place_from j ms n) ≡ n
name_from all [] j n h = refl
name_from all (m ∷ ms) j n h = by (bytes_eq m n) refl (name_from all ms (j + 1) n (λ i lt. rest i lt))
  where
    rest : (i : ℕ) → i < length ms → slice_index_or all (j + 1 + i) [] ≡ slice_index_or ms i []
    rest i lt = let next : j + 1 + i ≡ j + suc i = omega arith in ap (λ (k : ℕ). slice_index_or all k []) next ∙ h (suc i) (omega (arith, lt))

    by : (b : Bool) → bytes_eq m n ≡ b → cluster_ref_name all (place_from (j + 1) ms n) ≡ n → cluster_ref_name all (if b then cluster_ref.Known j else place_from (j + 1) ms n) ≡ n
    by true is later =
        let here : j ≡ j + 0 = omega arith in
        ap (λ (k : ℕ). slice_index_or all k []) here ∙ h 0 (omega arith) ∙ (bytes_eq-Decides m n).0 is
    by false is later = later

pub name_again : (names : List (List ℕ)) (n : List ℕ) → cluster_ref_name names (place_of names n) ≡ n
name_again names n = name_from names names 0 n (λ i lt. ap (λ (k : ℕ). slice_index_or names k []) (omega arith))

abbrev id_with : List ℕ → ClusterMessageId → ClusterMessageId
id_with n c = record { cluster = n; message_id = c.message_id }

cluster_again : (names : List (List ℕ)) (c : ClusterMessageId) → named_cluster names (placed_cluster names c) ≡ c
cluster_again names c = ap (λ (n : List ℕ). id_with n c) (name_again names c.cluster)

clusters_again : (names : List (List ℕ)) (cs : List ClusterMessageId) → map (λ (r : ClusterPosition). named_cluster names r) (map (λ (c : ClusterMessageId). placed_cluster names c) cs) ≡ cs
clusters_again names [] = refl
clusters_again names (c ∷ cs) = ap (λ (d : ClusterMessageId). d ∷ map (λ (r : ClusterPosition). named_cluster names r) (map (λ (e : ClusterMessageId). placed_cluster names e) cs)) (cluster_again names c) ∙ ap (λ (ds : List ClusterMessageId). c ∷ ds) (clusters_again names cs)

pub marker_again : (names : List (List ℕ)) (m : Marker) → named_marker names (placed_marker names m) ≡ m
marker_again names (marker.Request id source) = ap (λ (n : List ℕ). marker.Request id n) (name_again names source)
marker_again names (marker.Response id answer) = ap (λ (c : ClusterMessageId). marker.Response id c) (cluster_again names answer)
marker_again names (marker.Snapshot id local remote) = ap (λ (cs : List ClusterMessageId). marker.Snapshot id local cs) (clusters_again names remote)
marker_again names (marker.Update n remote) = ap (λ (cs : List ClusterMessageId). marker.Update n cs) (clusters_again names remote)

-- a marker's number
number_is : (names : List (List ℕ)) (k : ℕ) (payload : List ℕ) (m : Marker) → IsMarkerText k payload m → marker_type (placed_marker names m) ≡ k
number_is names k payload (marker.Request id source) h = sym h.kind
number_is names k payload (marker.Response id answer) h = sym h.kind
number_is names k payload (marker.Snapshot id local remote) h = sym h.kind
number_is names k payload (marker.Update n remote) h = sym h.kind

-- ---- its texts tell it

-- what a reader keeps of a marker whose payload is another text
foreign_told : (names : List (List ℕ)) (k : ℕ) (m : Marker) (kept : List ℕ) → IsMarkerText k kept m → kept ≢ text (canonical_fields m) → IsToldContent names (content.Marked (placed_marker names m)) kept
foreign_told names k m [] says other = ap (λ (n : Marker). placed_marker names n) (marker_again names m)
foreign_told names k m (b ∷ bs) says other = foreign k m (ap (λ (n : ℕ). Some n) (number_is names k (b ∷ bs) m says)) says other refl refl

as_told : (names : List (List ℕ)) (c d : Content) (kept payload : List ℕ) → c ≡ d → kept ≡ payload → IsToldContent names d payload → IsToldContent names c kept
as_told names c d kept payload is same h = rw (is, same) h

pub content_told : (names : List (List ℕ)) (number : Option ℕ) (payload : List ℕ) (c : Content) (kept : List ℕ) → IsContent names number payload c kept → IsToldContent names c kept
content_told names number payload c kept (no_marker none is same) = as_told names c content.Data kept payload is same (no_marker refl refl refl)
content_told names number payload c kept (unread k some not is same) = as_told names c (content.Unread k) kept payload is same (unread k refl not refl refl)
content_told names number payload c kept (canonical k m some says own is same) =
    as_told names c (content.Marked (placed_marker names m)) kept [] is same (ap (λ (n : Marker). placed_marker names n) (marker_again names m))
content_told names number payload c kept (foreign k m some says other is same) =
    as_told names c (content.Marked (placed_marker names m)) kept payload is same (foreign_told names k m payload says other)
