use Rattle.std.proofs.Common.{◌∙◌, List, [], ◌∷◌, ◌++◌, ap, arith}
use Rattle.std.specs.Prelude.{None, Option}
use Rattle.std.proofs.lemmas.List.{replicate_more}
use Rattle.geo_base.specs.declared.session.Session.{Session}
use Rattle.broker_state.proofs.parts.no_sessions.Goals as goal

pub loop-client-preserved : goal.loop-client-preserved
loop-client-preserved c =
    let i = c.loop-client.invariant in
    record {
      same =
          c.push_reserved.ensures.items
          ∙ ap (λ (ss : List (Option Session)). ss ++ None ∷ []) i.same
          ∙ replicate_more c.loop-client._client None;
      many = omega (arith, i.many, c.push_reserved.ensures.len);
      room = omega (arith, i.room, c.push_reserved.ensures.capacity);
    }
