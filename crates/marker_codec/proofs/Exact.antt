-- What markers hold is judged exactly.
use Rattle.std.proofs.Common.{◌≡◌, ℕ, List}
use Rattle.pb_fields.specs.declared.message.MessageFault.{MessageFault}
use Rattle.pb_fields.specs.Embedded.{IsExact, AnyContent, NoFault}
use Rattle.pb_fields.proofs.Nested.{unread_exact, of_table}
use Rattle.marker_codec.specs.declared.kind.MarkerKind.{MarkerKind}
use Rattle.marker_codec.specs.declared.kind.MarkerKind.TheVariants as kind
use Rattle.marker_codec.specs.Table.{cluster_rows, position_rows}
use Rattle.marker_codec.specs.Kinds.{RightPosition, WrongPosition, RightCluster, WrongCluster, RightInSnapshot, WrongInSnapshot, local, clusters, RightPart, WrongPart}

pub position_exact : IsExact RightPosition WrongPosition
position_exact = of_table AnyContent NoFault unread_exact position_rows

pub cluster_exact : IsExact RightCluster WrongCluster
cluster_exact = of_table RightPosition WrongPosition position_exact cluster_rows

snapshot_exact : IsExact RightInSnapshot WrongInSnapshot
snapshot_exact = record { either = either; one = one }
  where
    either : (n : ℕ) (content : List ℕ) (e : MessageFault) → RightInSnapshot n content → WrongInSnapshot n content e → ⊥
    either n content e right (local is wrong) = position_exact.either n content e (right.local is) wrong
    either n content e right (clusters other wrong) = cluster_exact.either n content e (right.clusters other) wrong

    one : (n : ℕ) (content : List ℕ) (a b : MessageFault) → WrongInSnapshot n content a → WrongInSnapshot n content b → a ≡ b
    one n content a b (local is h) (local is' k) = position_exact.one n content a b h k
    one n content a b (local is h) (clusters other k) = absurd (other is)
    one n content a b (clusters other h) (local is k) = absurd (other is)
    one n content a b (clusters other h) (clusters other' k) = cluster_exact.one n content a b h k

pub part_exact : (k : MarkerKind) → IsExact (RightPart k) (WrongPart k)
part_exact kind.Request = unread_exact
part_exact kind.Response = cluster_exact
part_exact kind.Snapshot = snapshot_exact
part_exact kind.Update = cluster_exact
