use Rattle.std.proofs.Common.{ap, ◌∙◌, ◌≡◌, arith}
use Rattle.std.specs.Prelude.{length, map}
use Rattle.std.proofs.lemmas.List.{length-map}
use Rattle.broker_state.specs.Replicators.{ReplicatorsView, row_restarted, replicators_of}
use Rattle.broker_state.proofs.ReplicatorTables.{left_whole, restarted_holds, restarted_replicators}
use Rattle.broker_state.proofs.replicators.ReplicatorTable.restart.Goals as goal

pub invariant_of-self : goal.invariant_of-self
invariant_of-self c =
    let items = c.self.inside.replicators.items in
    let new : c.restart_each.new.replicators ≡ map row_restarted items = c.restart_each.ensures ∙ ap (map row_restarted) c.as_mut_slice.ensures.value in
    let many : length c.restart_each.new.replicators ≡ c.self.inside.replicators.len = omega (arith, ap length new, length-map items row_restarted, c.self.inside.replicators.ok.0) in
    rw (left_whole c.self.inside.replicators.len c.restart_each.new.replicators _ many, new) (restarted_holds c.self.inside.own c.self.inside.room c.self.inside.spare items c.self.invariant)

pub returns-clause-replicators : goal.returns-clause-replicators
returns-clause-replicators c =
    let items = c.self.inside.replicators.items in
    let view : replicators_of items ≡ c.args.self.now.replicators = ap (λ (t : ReplicatorsView). t.replicators) c.self.view_is in
    let new : c.restart_each.new.replicators ≡ map row_restarted items = c.restart_each.ensures ∙ ap (map row_restarted) c.as_mut_slice.ensures.value in
    let many : length c.restart_each.new.replicators ≡ c.self.inside.replicators.len = omega (arith, ap length new, length-map items row_restarted, c.self.inside.replicators.ok.0) in
    rw (left_whole c.self.inside.replicators.len c.restart_each.new.replicators _ many, new, ← view) (restarted_replicators items)
