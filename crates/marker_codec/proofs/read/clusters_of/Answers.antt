use Rattle.std.proofs.Common.{◌+◌, ◌∙◌, sym, subst, take, List}
use Rattle.pb_fields.specs.declared.field.Value.{Value}
use Rattle.pb_fields.specs.Message.{values}
use Rattle.pb_fields.proofs.LastValues.{values-at}
use Rattle.pb_fields.proofs.Nested.{IsHeld}
use Rattle.marker_codec.specs.declared.marker.ClusterMessageId.{ClusterMessageId}
use Rattle.marker_codec.specs.Kinds.{RightCluster}
use Rattle.marker_codec.specs.Markers.{AreClusters}
use Rattle.marker_codec.proofs.Clusters.{clusters_more, clusters_same}
use Rattle.marker_codec.proofs.read.clusters_of.Goals as goal
use Rattle.marker_codec.proofs.read.clusters_of.Goals.{then-field-number+in_ok-cluster_of_value+in_ok-push, else-field-number}

pub cluster_of_value-requires : goal.cluster_of_value-requires
cluster_of_value-requires c = values-at (λ (v : Value). IsHeld (RightCluster 0) v) c.args.number c.loop-field.field-index c.args.fields.now c.field-item.result c.loop-field-test.true c.field-item.is c.if-field-number.true c.requires

pub loop-field-preserved : goal.loop-field-preserved
loop-field-preserved c =
    elim c.if-field-number.branch [
      | then-field-number+in_ok-cluster_of_value+in_ok-push w ↦
          subst (λ (cs : List ClusterMessageId). AreClusters (values c.args.number (take (c.loop-field.field-index + 1) c.args.fields.now)) cs)
          (sym (w.clusters-is ∙ w.in_ok-push.ensures.ok))
          (clusters_more c.args.number c.loop-field.field-index c.args.fields.now c.field-item.result c.loop-field.clusters w.in_ok-cluster_of_value.field-0 c.loop-field-test.true c.field-item.is w.if-field-number.true c.loop-field.invariant w.in_ok-cluster_of_value.ensures)
      | else-field-number w ↦
          subst (λ (cs : List ClusterMessageId). AreClusters (values c.args.number (take (c.loop-field.field-index + 1) c.args.fields.now)) cs)
          (sym w.clusters-is)
          (clusters_same c.args.number c.loop-field.field-index c.args.fields.now c.field-item.result c.loop-field.clusters c.loop-field-test.true c.field-item.is w.if-field-number.false c.loop-field.invariant)
    ]
