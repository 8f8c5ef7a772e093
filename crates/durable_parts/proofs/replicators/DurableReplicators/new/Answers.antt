use Rattle.std.proofs.Common.{◌∙◌, List, [], ◌∷◌, ◌++◌, replicate, ap, arith}
use Rattle.std.proofs.lemmas.List.{map-append, replicate_more}
use Rattle.geo_base.specs.Replicator.{Replicator, new_replicator}
use Rattle.durable_parts.specs.Parts.{replicator_of, replicators_of}
use Rattle.durable_parts.proofs.replicators.DurableReplicators.new.Goals as goal

pub loop-cluster-preserved : goal.loop-cluster-preserved
loop-cluster-preserved c =
    let i = c.loop-cluster.invariant in
    let k = c.loop-cluster._cluster in
    let items = c.loop-cluster.replicators.items in
    record {
      same =
          ap replicators_of c.push_reserved.ensures.items
          ∙ map-append replicator_of items (c.new.result ∷ [])
          ∙ ap (λ (ss : List Replicator). ss ++ replicator_of c.new.result ∷ []) i.same
          ∙ ap (λ (s : Replicator). replicate k new_replicator ++ s ∷ []) c.new.ensures
          ∙ replicate_more k new_replicator;
      many = omega (arith, i.many, c.push_reserved.ensures.len);
      room = omega (arith, i.room, c.push_reserved.ensures.capacity);
    }
