-- The canonical fields of a marker mean it.
use Rattle.std.proofs.Common.{◌≡◌, ℕ, List, [], ◌∷◌, Option, Some, map, refl, sym, ap, subst, ◌∙◌, arith}
use Rattle.std.specs.Prelude.{IsUtf8}
use Rattle.std.specs.List.{AllByRecursion, last_or}
use Rattle.geo_base.specs.declared.position.Position.{Position}
use Rattle.pb_fields.specs.declared.field.Value.{Value}
use Rattle.pb_fields.specs.declared.field.Value.TheVariants as value
use Rattle.pb_fields.specs.declared.message.Form.TheVariants as form
use Rattle.pb_fields.specs.declared.message.Row.{Row}
use Rattle.pb_fields.specs.Canonical.{text, AscendFrom}
use Rattle.pb_fields.specs.Field.{varint_field, bytes_field}
use Rattle.pb_fields.specs.Message.{row_of, values}
use Rattle.pb_fields.specs.Embedded.{Holds, FitsWith, IsMessageWith, AnyContent}
use Rattle.pb_fields.proofs.Parts.{AllByRecursion-map, fits_row, values-map, values-map_other}
use Rattle.pb_fields.proofs.Order.{ascend_map}
use Rattle.pb_fields.proofs.Written.{text-is}
use Rattle.marker_codec.specs.declared.marker.Marker.{Marker}
use Rattle.marker_codec.specs.declared.marker.Marker.TheVariants as marker
use Rattle.marker_codec.specs.declared.marker.ClusterMessageId.{ClusterMessageId}
use Rattle.marker_codec.specs.Table.{request_rows, response_rows, snapshot_rows, update_rows, cluster_rows, position_rows}
use Rattle.marker_codec.specs.Kinds.{kind_number, marker_kind, RightPosition, RightCluster, RightInSnapshot}
use Rattle.marker_codec.specs.Markers.{IsPositionText, IsClusterText, AreClusters, MeansMarker, IsMarkerText}
use Rattle.marker_codec.specs.Canonical.{position_fields, cluster_fields, clusters_fields, canonical_fields, IsPosition, IsCluster, IsMarker}

-- ---- each field fits its row

some_row : (a b : Row) → ◌≡◌ {A = Option Row} (Some a) (Some b) → a ≡ b
some_row a b e = cc

-- a text's row holds no message
text_holds : (rows : List Row) (n : ℕ) (q : Row) (v : Value) (content : List ℕ) → row_of rows n ≡ Some q → q.form ≡ form.Text → Holds rows (record { number = n; value = v }) content → ⊥
text_holds rows n q v content is text h =
    let same : q ≡ h.row = some_row q h.row (sym is ∙ h.known) in
    let other : form.Text ≡ form.Message = sym text ∙ ap (λ (r : Row). r.form) same ∙ h.message in
    cc

varint_holds : (rows : List Row) (n k : ℕ) (content : List ℕ) → Holds rows (varint_field n k) content → ⊥
varint_holds rows n k content h = let e = h.value in cc

fits_text : (Right : ℕ → List ℕ → Type 0) (rows : List Row) (n : ℕ) (q : Row) (b : List ℕ) → row_of rows n ≡ Some q → q.form ≡ form.Text → IsUtf8 b → FitsWith Right rows (bytes_field n b)
fits_text Right rows n q b is text utf8 = record {
  fits = fits_row rows n q (value.Bytes b) is (rw text utf8);
  holds = λ content h. absurd (text_holds rows n q (value.Bytes b) content is text h);
}

fits_varint : (Right : ℕ → List ℕ → Type 0) (rows : List Row) (n : ℕ) (q : Row) (k : ℕ) → row_of rows n ≡ Some q → q.form ≡ form.Varint → FitsWith Right rows (varint_field n k)
fits_varint Right rows n q k is varint = record {
  fits = fits_row rows n q (value.Varint k) is (rw varint tt);
  holds = λ content h. absurd (varint_holds rows n k content h);
}

same_content : (a b : List ℕ) → ◌≡◌ {A = Value} (value.Bytes a) (value.Bytes b) → a ≡ b
same_content a b e = cc

fits_message : (Right : ℕ → List ℕ → Type 0) (rows : List Row) (n : ℕ) (q : Row) (b : List ℕ) → row_of rows n ≡ Some q → q.form ≡ form.Message → Right n b → FitsWith Right rows (bytes_field n b)
fits_message Right rows n q b is message right = record {
  fits = fits_row rows n q (value.Bytes b) is (rw message tt);
  holds = λ content h. subst (λ (c : List ℕ). Right n c) (let e = h.value in same_content b content e) right;
}

-- ---- embedded messages

position_message : (p : Position) → IsMessageWith AnyContent position_rows (position_fields p)
position_message p = record {
  fit = (fits_varint AnyContent position_rows 1 _ p.ledger refl refl, (fits_varint AnyContent position_rows 2 _ p.entry refl refl, tt));
  complete = refl;
}

position_is : (p : Position) → IsPosition p → IsPositionText (text (position_fields p)) p
position_is p h = record {
  fields = position_fields p;
  text = text-is (position_fields p) h;
  message = position_message p;
  says = record { ledger_id = refl; entry_id = refl };
}

right_position : (n : ℕ) (p : Position) → IsPosition p → RightPosition n (text (position_fields p))
right_position n p h = record { fields = position_fields p; text = text-is (position_fields p) h; message = position_message p }

cluster_message : (c : ClusterMessageId) → IsCluster c → IsMessageWith RightPosition cluster_rows (cluster_fields c)
cluster_message c h = record {
  fit = (fits_text RightPosition cluster_rows 1 _ c.cluster refl refl h.cluster, (fits_message RightPosition cluster_rows 2 _ (text (position_fields c.message_id)) refl refl (right_position 2 c.message_id h.message_id), tt));
  complete = refl;
}

cluster_is : (c : ClusterMessageId) → IsCluster c → IsClusterText (text (cluster_fields c)) c
cluster_is c h = record {
  fields = cluster_fields c;
  text = text-is (cluster_fields c) h.fields;
  message = cluster_message c h;
  says = record { cluster = refl; message_id = record { content = text (position_fields c.message_id); last = refl; means = position_is c.message_id h.message_id } };
}

right_cluster : (n : ℕ) (c : ClusterMessageId) → IsCluster c → RightCluster n (text (cluster_fields c))
right_cluster n c h = record { fields = cluster_fields c; text = text-is (cluster_fields c) h.fields; message = cluster_message c h }

-- ---- a list of them

abbrev cluster_value : ClusterMessageId → Value
cluster_value c = value.Bytes (text (cluster_fields c))

clusters_fit : (Right : ℕ → List ℕ → Type 0) (rows : List Row) (n : ℕ) (q : Row) (cs : List ClusterMessageId) → row_of rows n ≡ Some q → q.form ≡ form.Message → ((content : List ℕ) → RightCluster n content → Right n content) → AllByRecursion IsCluster cs → AllByRecursion (FitsWith Right rows) (clusters_fields n cs)
clusters_fit Right rows n q cs is message right h =
    AllByRecursion-map IsCluster (FitsWith Right rows) (λ c. bytes_field n (text (cluster_fields c))) cs
    (λ c k. fits_message Right rows n q (text (cluster_fields c)) is message (right (text (cluster_fields c)) (right_cluster n c k))) h

clusters_mean : (cs : List ClusterMessageId) → AllByRecursion IsCluster cs → AreClusters (map cluster_value cs) cs
clusters_mean [] h = tt
clusters_mean (c ∷ cs) h = (record { content = text (cluster_fields c); is = refl; means = cluster_is c h.0 }, clusters_mean cs h.1)

are_clusters : (n : ℕ) (cs : List ClusterMessageId) → AllByRecursion IsCluster cs → AreClusters (values n (clusters_fields n cs)) cs
are_clusters n cs h = subst (λ (vs : List Value). AreClusters vs cs) (sym (values-map n cluster_value cs)) (clusters_mean cs h)

-- a list of another number changes no last value
last_other : (n k : ℕ) (v : Value) (cs : List ClusterMessageId) → (k ≡ n → ⊥) → last_or (Some v) (values n (clusters_fields k cs)) ≡ Some v
last_other n k v cs other = ap (λ (vs : List Value). last_or (Some v) vs) (values-map_other n k cluster_value cs other)

-- ---- markers

pub means : (m : Marker) → IsMarker m → MeansMarker (canonical_fields m) m
means (marker.Request id source) h = record {
  message = record { fit = (fits_text AnyContent request_rows 1 _ id refl refl h.parts.0, (fits_text AnyContent request_rows 2 _ source refl refl h.parts.1, tt)); complete = refl };
  says = record { snapshot_id = refl; source_cluster = refl };
}
means (marker.Response id cluster) h = record {
  message = record {
    fit = (fits_text RightCluster response_rows 1 _ id refl refl h.parts.0, (fits_message RightCluster response_rows 2 _ (text (cluster_fields cluster)) refl refl (right_cluster 2 cluster h.parts.1), tt));
    complete = refl;
  };
  says = record { snapshot_id = refl; cluster = record { content = text (cluster_fields cluster); last = refl; means = cluster_is cluster h.parts.1 } };
}
means (marker.Snapshot id local clusters) h = record {
  message = record {
    fit = (
      fits_text RightInSnapshot snapshot_rows 1 _ id refl refl h.parts.0,
      (
        fits_message RightInSnapshot snapshot_rows 2 _ (text (position_fields local)) refl refl (record { local = λ e. right_position 2 local h.parts.1; clusters = λ other. absurd (other refl) }),
        clusters_fit RightInSnapshot snapshot_rows 3 _ clusters refl refl (λ content right. record { local = λ e. absurd (omega arith); clusters = λ other. right }) h.parts.2,
      ),
    );
    complete = refl;
  };
  says = record {
    snapshot_id = last_other 1 3 (value.Bytes id) clusters (λ e. omega arith);
    local_message_id = record { content = text (position_fields local); last = last_other 2 3 (value.Bytes (text (position_fields local))) clusters (λ e. omega arith); means = position_is local h.parts.1 };
    clusters = are_clusters 3 clusters h.parts.2;
  };
}
means (marker.Update name clusters) h = record {
  message = record {
    fit = (fits_text RightCluster update_rows 1 _ name refl refl h.parts.0, clusters_fit RightCluster update_rows 2 _ clusters refl refl (λ content right. right) h.parts.1);
    complete = refl;
  };
  says = record {
    subscription_name = last_other 1 2 (value.Bytes name) clusters (λ e. omega arith);
    clusters = are_clusters 2 clusters h.parts.1;
  };
}

pub canonical_is : (m : Marker) → IsMarker m → IsMarkerText (kind_number (marker_kind m)) (text (canonical_fields m)) m
canonical_is m h = record { kind = refl; fields = canonical_fields m; text = text-is (canonical_fields m) h.fields; means = means m h }

-- ---- their order

pub ascend : (m : Marker) → AscendFrom 1 (canonical_fields m)
ascend (marker.Request id source) = (omega arith, (omega arith, tt))
ascend (marker.Response id cluster) = (omega arith, (omega arith, tt))
ascend (marker.Snapshot id local clusters) = (omega arith, (omega arith, ascend_map 2 3 (λ c. bytes_field 3 (text (cluster_fields c))) clusters (λ c. refl) (omega arith)))
ascend (marker.Update name clusters) = (omega arith, ascend_map 1 2 (λ c. bytes_field 2 (text (cluster_fields c))) clusters (λ c. refl) (omega arith))

pub ascend_within : (c : ClusterMessageId) → AscendFrom 1 (cluster_fields c) × AscendFrom 1 (position_fields c.message_id)
ascend_within c = ((omega arith, (omega arith, tt)), (omega arith, (omega arith, tt)))
