use Rattle.std.proofs.Common.{ℕ, ◌∙◌, List, [], ◌∷◌, ◌++◌, replicate, ap, arith}
use Rattle.std.specs.Prelude.{None, Option}
use Rattle.std.proofs.lemmas.List.{replicate_more}
use Rattle.broker_state.proofs.parts.closed_receivers.Goals as goal

pub loop-cluster-preserved : goal.loop-cluster-preserved
loop-cluster-preserved c =
    let i = c.loop-cluster.invariant in
    let k = c.loop-cluster._cluster in
    record {
      same =
          c.push_reserved.ensures.items
          ∙ ap (λ (rs : List (Option ℕ)). rs ++ c.new.result ∷ []) i.same
          ∙ ap (λ (r : Option ℕ). replicate k None ++ r ∷ []) c.new.ensures
          ∙ replicate_more k None;
      many = omega (arith, i.many, c.push_reserved.ensures.len);
      room = omega (arith, i.room, c.push_reserved.ensures.capacity);
    }
