-- The lengths of canonical texts are the written machine's sizes.
use Rattle.std.proofs.Common.{◌≡◌, ℕ, zero, suc, ◌+◌, ◌*◌, ◌/◌, List, [], ◌∷◌, ◌++◌, length, map, refl, ◌∙◌, arith, inl, inr, lt-ltb, le-ltb, length-append}
use Rattle.std.proofs.lemmas.Bool.{cases_lt}
use Rattle.geo_base.specs.declared.position.Position.{Position}
use Rattle.geo_base.specs.declared.marker.ClusterPosition.{ClusterPosition}
use Rattle.geo_base.specs.declared.marker.Marker.{Marker as MachineMarker}
use Rattle.geo_base.specs.declared.marker.Marker.TheVariants as machine
use Rattle.geo_base.specs.Sizes.{varint_groups, varint_size, tag_size, bytes_field as bytes_size, number_field, position_size, cluster_position_size, cluster_positions, marker_size, marker_type, cluster_ref_name}
use Rattle.pb_fields.specs.declared.field.Field.{Field}
use Rattle.pb_fields.specs.Canonical.{groups, varint, field_text, text}
use Rattle.pb_fields.specs.Field.{varint_field, bytes_field}
use Rattle.marker_codec.specs.Kinds.{kind_number, marker_kind}
use Rattle.marker_codec.specs.Canonical.{position_fields, cluster_fields, clusters_fields, canonical_fields}
use Rattle.marker_codec.specs.Machine.{named_cluster, named_marker}

length-groups : (k n : ℕ) → length (groups k n) ≡ varint_groups k n
unfolding groups
length-groups zero n = refl
length-groups (suc k) n =
    elim (cases_lt n 128) [
      | inl small ↦ rw (lt-ltb n 128 small) refl
      | inr le ↦ rw (le-ltb n 128 le) (omega (arith, length-groups k (n / 128)))
    ]

length-varint : (n : ℕ) → length (varint n) ≡ varint_size n
unfolding varint
length-varint n = length-groups 9 n

-- a field of a number whose tag is so long
length-bytes : (n : ℕ) (b : List ℕ) → length (varint (8 * n + 2)) ≡ tag_size n → length (field_text (bytes_field n b)) ≡ bytes_size n (length b)
length-bytes n b tag =
    let tail : length (varint (length b) ++ b) ≡ varint_size (length b) + length b = omega (arith, length-append (varint (length b)) b, length-varint (length b)) in
    omega (arith, length-append (varint (8 * n + 2)) (varint (length b) ++ b))

length-number : (n k : ℕ) → length (varint (8 * n + 0)) ≡ tag_size n → length (field_text (varint_field n k)) ≡ number_field n k
length-number n k tag = omega (arith, length-append (varint (8 * n + 0)) (varint k), length-varint k)

two : (f g : Field) → length (text (f ∷ g ∷ [])) ≡ length (field_text f) + length (field_text g)
two f g = omega (arith, length-append (field_text f) (field_text g ++ []), length-append (field_text g) [])

front : (f : Field) (fs : List Field) → length (text (f ∷ fs)) ≡ length (field_text f) + length (text fs)
front f fs = length-append (field_text f) (text fs)

bytes_1 : (b : List ℕ) → length (field_text (bytes_field 1 b)) ≡ bytes_size 1 (length b)
bytes_1 b = length-bytes 1 b (length-varint 10)

bytes_2 : (b : List ℕ) → length (field_text (bytes_field 2 b)) ≡ bytes_size 2 (length b)
bytes_2 b = length-bytes 2 b (length-varint 18)

-- ---- embedded messages

sizes_position : (p : Position) → length (text (position_fields p)) ≡ position_size p
sizes_position p =
    two (varint_field 1 p.ledger) (varint_field 2 p.entry)
    ∙ rw (length-number 1 p.ledger (length-varint 8), length-number 2 p.entry (length-varint 16)) refl

sizes_cluster : (names : List (List ℕ)) (r : ClusterPosition) → length (text (cluster_fields (named_cluster names r))) ≡ cluster_position_size names r
sizes_cluster names r =
    two (bytes_field 1 (cluster_ref_name names r.cluster)) (bytes_field 2 (text (position_fields r.position)))
    ∙ rw (bytes_1 (cluster_ref_name names r.cluster), bytes_2 (text (position_fields r.position)), sizes_position r.position) refl

sizes_clusters : (names : List (List ℕ)) (n : ℕ) (rs : List ClusterPosition) → length (varint (8 * n + 2)) ≡ tag_size n
    → length (text (clusters_fields n (map (λ r. named_cluster names r) rs))) ≡ cluster_positions names n rs
sizes_clusters names n [] tag = refl
sizes_clusters names n (r ∷ rs) tag =
    front (bytes_field n (text (cluster_fields (named_cluster names r)))) (clusters_fields n (map (λ r. named_cluster names r) rs))
    ∙ rw (length-bytes n (text (cluster_fields (named_cluster names r))) tag, sizes_cluster names r, sizes_clusters names n rs tag) refl

-- ---- markers

pub sizes : (names : List (List ℕ)) (m : MachineMarker) → length (text (canonical_fields (named_marker names m))) ≡ marker_size names m
sizes names (machine.Request id source) = two (bytes_field 1 id) (bytes_field 2 (cluster_ref_name names source)) ∙ rw (bytes_1 id, bytes_2 (cluster_ref_name names source)) refl
sizes names (machine.Response id answer) =
    two (bytes_field 1 id) (bytes_field 2 (text (cluster_fields (named_cluster names answer))))
    ∙ rw (bytes_1 id, bytes_2 (text (cluster_fields (named_cluster names answer))), sizes_cluster names answer) refl
sizes names (machine.Snapshot id local remote) =
    let clusters : List Field = clusters_fields 3 (map (λ r. named_cluster names r) remote) in
    front (bytes_field 1 id) (bytes_field 2 (text (position_fields local)) ∷ clusters)
    ∙ rw (bytes_1 id, front (bytes_field 2 (text (position_fields local))) clusters, bytes_2 (text (position_fields local)), sizes_position local, sizes_clusters names 3 remote (length-varint 26)) refl
sizes names (machine.Update sub remote) =
    front (bytes_field 1 sub) (clusters_fields 2 (map (λ r. named_cluster names r) remote))
    ∙ rw (bytes_1 sub, sizes_clusters names 2 remote (length-varint 18)) refl

pub numbers : (names : List (List ℕ)) (m : MachineMarker) → kind_number (marker_kind (named_marker names m)) ≡ marker_type m
numbers names (machine.Request id source) = refl
numbers names (machine.Response id answer) = refl
numbers names (machine.Snapshot id local remote) = refl
numbers names (machine.Update sub remote) = refl
