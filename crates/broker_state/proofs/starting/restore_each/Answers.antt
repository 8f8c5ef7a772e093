use Rattle.std.proofs.Common.{◌≡◌, ◌∙◌, ◌++◌, List, ap, sym, length, arith}
use Rattle.durable_parts.specs.Parts as durable
use Rattle.durable_parts.specs.declared.durable.DurableReplicator.{DurableReplicator}
use Rattle.broker_state.specs.Replicators.{ReplicatorRowView, replicators_of}
use Rattle.broker_state.proofs.ReplicatorTables.{ends_pushed, one_restored}
use Rattle.broker_state.proofs.starting.restore_each.Goals as goal

pub loop-part-preserved : goal.loop-part-preserved
loop-part-preserved c =
    let i = c.loop-part.invariant in
    let rows = c.loop-part.rows.items in
    let made = c.restored.result in
    let left = c.next.new.self.rest.items in
    let many : c.in-Some-cluster_number.remote ≡ length rows = omega (arith, c.in-Some-cluster_number.ensures.number, c.len.ensures, c.loop-part.rows.ok.0) in
    record {
      replicators =
          ap (λ (rs : List ReplicatorRowView). replicators_of rs ++ durable.replicators_of left) c.in_ok-add.ensures
          ∙ one_restored rows made c.in-Some.part left (ap (λ (r : ReplicatorRowView). r.replicator) c.restored.ensures)
          ∙ ap (λ (ds : List DurableReplicator). replicators_of rows ++ durable.replicators_of ds) (sym c.in-Some.ensures.steps.0)
          ∙ i.replicators;
      ends = ends_pushed c.args.own c.in-Some-cluster_number.remote rows c.add.new.items.items made i.ends c.in_ok-add.ensures (ap (λ (r : ReplicatorRowView). r.ends) c.restored.ensures) many;
    }
