-- A plain marker's canonical text is a text of it.
use Rattle.std.proofs.Common.{◌≡◌, ℕ, ◌+◌, ◌*◌, ◌^◌, ◌<◌, ◌≤◌, true, List, [], ◌∷◌, length, map, subst, arith}
use Rattle.std.specs.List.{AllByRecursion, list_all}
use Rattle.geo_base.specs.declared.marker.ClusterPosition.{ClusterPosition}
use Rattle.geo_base.specs.declared.marker.Marker.{Marker}
use Rattle.geo_base.specs.declared.marker.Marker.TheVariants as marker
use Rattle.geo_base.specs.declared.marker.ClusterRef.{ClusterRef}
use Rattle.geo_base.specs.declared.marker.ClusterRef.TheVariants as cluster_ref
use Rattle.geo_base.specs.declared.position.Position.{Position}
use Rattle.geo_base.specs.Name.{is_name}
use Rattle.geo_base.specs.Sizes.{marker_size, marker_type, cluster_ref_name, tag_size, varint_size}
use Rattle.marker_codec.specs.Canonical.{IsCluster as IsClusterId, IsMarker, IsPosition, canonical_fields, cluster_fields, clusters_fields, position_fields}
use Rattle.marker_codec.specs.Machine.{named_cluster, named_marker}
use Rattle.marker_codec.specs.Markers.{IsMarkerText}
use Rattle.marker_codec.proofs.Lengths.{numbers}
use Rattle.marker_codec.proofs.Written.{canonical_is}
use Rattle.pb_fields.specs.Canonical.{text}
use Rattle.pb_fields.specs.Field.{IsField, bytes_field, varint_field}
use Rattle.frame_values.proofs.Counting.{varint_most}
use Rattle.frame_values.proofs.Sized.{length-text}
use Rattle.world_laws.specs.Plain.{AreClusters, HasClusters, IsCluster}
use Rattle.world_laws.proofs.Replicating.Effects.{Each}
use Rattle.world_laws.proofs.Snapshotting.Ids.{IsSmall}
use Rattle.kept_laws.proofs.Ascii.{IsNameText, low_utf8, named_text}
use Rattle.kept_laws.proofs.Sayable.{IsSayableMarker, SmallPlace}

-- ---- fields

pub bytes_fit : (n : ℕ) (t : List ℕ) → 0 < n → n < 2 ^ 29 → length t < 2 ^ 64 → IsField (bytes_field n t)
bytes_fit n t low high fits = record { number = record { above_zero = low; in_range = high }; value = fits }

pub number_fits : (n k : ℕ) → 0 < n → n < 2 ^ 29 → k < 2 ^ 64 → IsField (varint_field n k)
number_fits n k low high fits = record { number = record { above_zero = low; in_range = high }; value = fits }

-- ---- what is embedded

position_fits : (p : Position) → IsSmall p → IsPosition p
position_fits p h = (number_fits 1 p.ledger (omega arith) (omega arith) h.ledger, (number_fits 2 p.entry (omega arith) (omega arith) h.entry, tt))

sum_position : (a b c d n : ℕ) → a < 11 → b < 11 → c < 11 → d < 11 → n ≡ a + b + (c + d + 0) → n ≤ 40
sum_position a b c d n ha hb hc hd is = omega (arith, ha, hb, hc, hd, is)

position_short : (p : Position) → length (text (position_fields p)) ≤ 40
position_short p =
    sum_position (tag_size 1) (varint_size p.ledger) (tag_size 2) (varint_size p.entry) (length (text (position_fields p)))
    (varint_most (1 * 8)) (varint_most p.ledger) (varint_most (2 * 8)) (varint_most p.entry) (length-text (position_fields p))

name_of : (names : List (List ℕ)) (c : ClusterRef) → list_all is_name names ≡ true → IsCluster names c → IsNameText (cluster_ref_name names c)
name_of names (cluster_ref.Known x) all h = named_text names x all
name_of names (cluster_ref.Stranger n) all h = absurd h

cluster_fits : (names : List (List ℕ)) (r : ClusterPosition) → list_all is_name names ≡ true → IsCluster names r.cluster → SmallPlace r → IsClusterId (named_cluster names r)
cluster_fits names r all h small =
    let name = name_of names r.cluster all h in
    let one : length (cluster_ref_name names r.cluster) < 2 ^ 64 = let s = name.short in omega (arith, s) in
    let two : length (text (position_fields r.position)) < 2 ^ 64 = let s = position_short r.position in omega (arith, s) in
    record {
      fields = (bytes_fit 1 (cluster_ref_name names r.cluster) (omega arith) (omega arith) one, (bytes_fit 2 (text (position_fields r.position)) (omega arith) (omega arith) two, tt));
      cluster = low_utf8 (cluster_ref_name names r.cluster) name.low;
      message_id = position_fits r.position small;
    }

sum_cluster : (a b l c d m n : ℕ) → a < 11 → b < 11 → l ≤ 16 → c < 11 → d < 11 → m ≤ 40 → n ≡ a + (b + l) + (c + (d + m) + 0) → n ≤ 100
sum_cluster a b l c d m n ha hb hl hc hd hm is = omega (arith, ha, hb, hl, hc, hd, hm, is)

cluster_short : (names : List (List ℕ)) (r : ClusterPosition) → list_all is_name names ≡ true → IsCluster names r.cluster → length (text (cluster_fields (named_cluster names r))) ≤ 100
cluster_short names r all h =
    let n = cluster_ref_name names r.cluster in let p = text (position_fields r.position) in
    sum_cluster (tag_size 1) (varint_size (length n)) (length n) (tag_size 2) (varint_size (length p)) (length p) (length (text (cluster_fields (named_cluster names r))))
    (varint_most (1 * 8)) (varint_most (length n)) (name_of names r.cluster all h).short (varint_most (2 * 8)) (varint_most (length p)) (position_short r.position)
    (length-text (cluster_fields (named_cluster names r)))

embedded : (k : ℕ) (names : List (List ℕ)) (r : ClusterPosition) → 0 < k → k < 2 ^ 29 → list_all is_name names ≡ true → IsCluster names r.cluster → IsField (bytes_field k (text (cluster_fields (named_cluster names r))))
embedded k names r low high all h = bytes_fit k (text (cluster_fields (named_cluster names r))) low high (let s = cluster_short names r all h in omega (arith, s))

all_embedded : (k : ℕ) (names : List (List ℕ)) (rs : List ClusterPosition) → 0 < k → k < 2 ^ 29 → list_all is_name names ≡ true → AreClusters names rs
    → AllByRecursion IsField (clusters_fields k (map (λ r. named_cluster names r) rs))
all_embedded k names [] low high all h = tt
all_embedded k names (r ∷ rs) low high all h = (embedded k names r low high all h.0, all_embedded k names rs low high all h.1)

all_clusters : (names : List (List ℕ)) (rs : List ClusterPosition) → list_all is_name names ≡ true → AreClusters names rs → Each SmallPlace rs → AllByRecursion IsClusterId (map (λ r. named_cluster names r) rs)
all_clusters names [] all h small = tt
all_clusters names (r ∷ rs) all h small = (cluster_fits names r all h.0 small.0, all_clusters names rs all h.1 small.1)

-- ---- markers

-- the text at the front of a marker
abbrev front_text : Marker → List ℕ
front_text (marker.Request id source) = id
front_text (marker.Response id answer) = id
front_text (marker.Snapshot id local remote) = id
front_text (marker.Update sub remote) = sub

part_of : (a b l c : ℕ) → l ≤ a + (b + l) + c
part_of a b l c = omega arith

front_short : (names : List (List ℕ)) (m : Marker) → length (front_text m) ≤ marker_size names m
front_short names (marker.Request id source) = part_of (tag_size 1) (varint_size (length id)) (length id) _
front_short names (marker.Response id answer) = part_of (tag_size 1) (varint_size (length id)) (length id) _
front_short names (marker.Snapshot id local remote) = part_of (tag_size 1) (varint_size (length id)) (length id) _
front_short names (marker.Update sub remote) = part_of (tag_size 1) (varint_size (length sub)) (length sub) _

marker_fits : (names : List (List ℕ)) (m : Marker) → list_all is_name names ≡ true → HasClusters names m → length (front_text m) < 2 ^ 64 → IsSayableMarker m → IsMarker (named_marker names m)
marker_fits names (marker.Request id source) all h fits say =
    let name = name_of names source all h in
    let one : length (cluster_ref_name names source) < 2 ^ 64 = let s = name.short in omega (arith, s) in
    record {
      fields = (bytes_fit 1 id (omega arith) (omega arith) fits, (bytes_fit 2 (cluster_ref_name names source) (omega arith) (omega arith) one, tt));
      parts = (low_utf8 id say, low_utf8 (cluster_ref_name names source) name.low);
    }
marker_fits names (marker.Response id answer) all h fits say = record {
  fields = (bytes_fit 1 id (omega arith) (omega arith) fits, (embedded 2 names answer (omega arith) (omega arith) all h, tt));
  parts = (low_utf8 id say.0, cluster_fits names answer all h say.1);
}
marker_fits names (marker.Snapshot id local remote) all h fits say =
    let one : length (text (position_fields local)) < 2 ^ 64 = let s = position_short local in omega (arith, s) in
    record {
      fields = (
        bytes_fit 1 id (omega arith) (omega arith) fits,
        (bytes_fit 2 (text (position_fields local)) (omega arith) (omega arith) one, all_embedded 3 names remote (omega arith) (omega arith) all h),
      );
      parts = (low_utf8 id say.0, position_fits local say.1, all_clusters names remote all h say.2);
    }
marker_fits names (marker.Update sub remote) all h fits say = record {
  fields = (bytes_fit 1 sub (omega arith) (omega arith) fits, all_embedded 2 names remote (omega arith) (omega arith) all h);
  parts = (low_utf8 sub say.0, all_clusters names remote all h say.1);
}

pub marker_right : (names : List (List ℕ)) (m : Marker) → list_all is_name names ≡ true → HasClusters names m → marker_size names m < 2 ^ 64 → IsSayableMarker m
    → IsMarkerText (marker_type m) (text (canonical_fields (named_marker names m))) (named_marker names m)
marker_right names m all h size say =
    let fits : length (front_text m) < 2 ^ 64 = let s = front_short names m in omega (arith, s, size) in
    subst (λ (n : ℕ). IsMarkerText n (text (canonical_fields (named_marker names m))) (named_marker names m)) (numbers names m) (canonical_is (named_marker names m) (marker_fits names m all h fits say))
