use Rattle.std.proofs.Common.{◌∙◌, ◌<◌, ap, length, arith}
use Rattle.broker_state.specs.Replicators.{ReplicatorRowView, ReplicatorsView, ends_to}
use Rattle.broker_state.proofs.ReplicatorTables.{ends_at, length_replicators_of}
use Rattle.broker_state.proofs.replicators.ReplicatorTable.at.Goals as goal

pub returns-clause-ends : goal.returns-clause-ends
returns-clause-ends c =
    let rs = c.self.inside.replicators.items in
    let within : c.args.remote < length rs = omega (arith, c.requires, ap (λ (t : ReplicatorsView). length t.replicators) c.self.view_is, length_replicators_of rs) in
    ap (λ (r : ReplicatorRowView). r.ends) c.index.ensures
    ∙ ends_at c.self.inside.own rs c.args.remote c.index.result.now c.self.invariant.ends within
    ∙ ap (λ (t : ReplicatorsView). ends_to t.own c.args.remote) c.self.view_is
