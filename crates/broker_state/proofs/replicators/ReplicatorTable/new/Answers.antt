use Rattle.std.proofs.Common.{◌≡◌, ◌∙◌, List, [], ◌∷◌, ◌++◌, length, replicate, ap, arith}
use Rattle.std.proofs.lemmas.List.{map-append, replicate_more}
use Rattle.geo_base.specs.Replicator.{Replicator, new_replicator}
use Rattle.broker_state.specs.Replicators.{ReplicatorRowView, replicators_of}
use Rattle.broker_state.proofs.ReplicatorTables.{ends_pushed}
use Rattle.broker_state.proofs.replicators.ReplicatorTable.new.Goals as goal

pub loop-remote-preserved : goal.loop-remote-preserved
loop-remote-preserved c =
    let i = c.loop-remote.invariant in
    let k = c.loop-remote.remote in
    let items = c.loop-remote.replicators.items in
    let many : k ≡ length items = omega (arith, i.many, c.loop-remote.replicators.ok.0) in
    record {
      ends = ends_pushed c.args.own k items c.push_reserved.new.self.items c.new.result i.ends c.push_reserved.ensures.items (ap (λ (r : ReplicatorRowView). r.ends) c.new.ensures) many;
      same =
          ap replicators_of c.push_reserved.ensures.items
          ∙ map-append (λ (r : ReplicatorRowView). r.replicator) items (c.new.result ∷ [])
          ∙ ap (λ (ss : List Replicator). ss ++ c.new.result.replicator ∷ []) i.same
          ∙ ap (λ (r : ReplicatorRowView). replicate k new_replicator ++ r.replicator ∷ []) c.new.ensures
          ∙ replicate_more k new_replicator;
      many = omega (arith, i.many, c.push_reserved.ensures.len);
      room = omega (arith, i.room, c.push_reserved.ensures.capacity);
    }
