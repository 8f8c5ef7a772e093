use Rattle.std.proofs.Common.{◌≡◌, ◌∙◌, ap, sym, ◌≤◌, ◌+◌, ◌<◌, length, arith, get_or}
use Rattle.std.specs.Prelude.{slice_set}
use Rattle.geo_base.specs.Replicator.{Replicator, new_replicator}
use Rattle.broker_state.specs.Replicators.{ReplicatorRowView, ReplicatorsView, replicators_of, stepped}
use Rattle.broker_state.proofs.ReplicatorTables.{replicators_of_set, replicator_of, length_replicators_of, stepped_holds}
use Rattle.broker_state.proofs.replicators.ReplicatorTable.step.Goals as goal

pub invariant_of-self : goal.invariant_of-self
invariant_of-self c =
    let rs = c.self.inside.replicators.items in
    let r = c.index_mut.result.now in
    let places = c.places-places.result in
    let within : c.args.remote < length rs = omega (arith, c.requires.remote, ap (λ (t : ReplicatorsView). length t.replicators) c.self.view_is, length_replicators_of rs) in
    let few : places ≤ c.self.inside.room = omega (arith, c.places-places.ensures, c.requires.room, ap (λ (t : ReplicatorsView). t.room) c.self.view_is) in
    let left : (get_or rs c.args.remote r).room ≤ c.step.new.self.room + places =
    omega (arith, c.places-places.ensures, c.step.ensures.room, ap (λ (r : ReplicatorRowView). r.room) c.index_mut.ensures.value) in
    stepped_holds c.self.inside.own c.self.inside.room c.self.inside.spare places c.args.remote rs c.step.new.self r c.self.invariant within few left
    (c.step.ensures.ends ∙ ap (λ (r : ReplicatorRowView). r.ends) c.index_mut.ensures.value)

pub returns-clause-replicators : goal.returns-clause-replicators
returns-clause-replicators c =
    let rs = c.self.inside.replicators.items in
    let view = ap (λ (t : ReplicatorsView). t.replicators) c.self.view_is in
    let within : c.args.remote < length rs = omega (arith, c.requires.remote, ap length view, length_replicators_of rs) in
    let is : c.index_mut.result.now.replicator ≡ get_or (replicators_of rs) c.args.remote new_replicator =
    ap (λ (r : ReplicatorRowView). r.replicator) c.index_mut.ensures.value ∙ sym (replicator_of rs c.args.remote c.index_mut.result.now new_replicator within) in
    rw (← view) (replicators_of_set rs c.args.remote c.step.new.self
    ∙ ap (λ (s : Replicator). slice_set (replicators_of rs) c.args.remote s) (c.step.ensures.replicator ∙ ap (λ (s : Replicator). stepped c.args.step s) is))
