use Rattle.std.proofs.Common.{◌≡◌, ◌∷◌, ◌+◌, ◌∙◌, ap, arith, drop, subst, List}
use Rattle.std.proofs.lemmas.List.{drop_more}
use Rattle.std.proofs.lemmas.Result.{err_from_is_err_and}
use Rattle.geo_base.specs.declared.event.Step.{Step}
use Rattle.world.proofs.Observing.{GoesOn, ends_there, first_of, goes_on_by}
use Rattle.world.proofs.world.World.run_with.Goals as goal

pub loop-broker_ref-init : goal.loop-broker_ref-init
loop-broker_ref-init g c = record {
  goes = first_of g.O.Observer.sight c.args.scenario.now.setup c.args.self.now (g.O.Observer.seen c.args.observer.now) c.args.steps.now c.requires.at;
  knows = c.requires.knows;
}

pub loop-broker_ref-preserved : goal.loop-broker_ref-preserved
loop-broker_ref-preserved g c =
    let s = c.args.scenario.now.setup in let old = c.args.self.now in let seen = g.O.Observer.seen in let o = g.O.Observer.sight in
    let steps = c.args.steps.now in let i = c.loop-broker_ref.broker_ref in let k = c.at.result in let t = seen c.args.observer.now in
    let left : drop i steps ≡ k ∷ drop (i + 1) steps = drop_more steps i k (omega arith) ∙ ap (λ (e : Step). e ∷ drop (i + 1) steps) c.at.ensures in
    record {
      goes =
          goes_on_by o s old c.loop-broker_ref.self c.step_with.new.self t (seen c.loop-broker_ref.observer) (seen c.step_with.new.observer) steps (drop (i + 1) steps) k c.in_ok-step_with.field-0
          (subst (λ (es : List Step). GoesOn o s old c.loop-broker_ref.self t (seen c.loop-broker_ref.observer) steps es) left c.loop-broker_ref.invariant.goes)
          c.in_ok-step_with.ensures.comes c.in_ok-step_with.ensures.seen c.in_ok-step_with.ensures.at;
      knows = c.in_ok-step_with.ensures.knows;
    }

pub returns-in_err-step_with-clause-comes : goal.returns-in_err-step_with-clause-comes
returns-in_err-step_with-clause-comes g c = λ w reached stands.
    let s = c.args.scenario.now.setup in let old = c.args.self.now in let seen = g.O.Observer.seen in let o = g.O.Observer.sight in
    let steps = c.args.steps.now in let i = c.loop-broker_ref.broker_ref in let k = c.at.result in let t = seen c.args.observer.now in
    let p = err_from_is_err_and c.from_residual.result c.from_residual.ensures.1 in
    let left : drop i steps ≡ k ∷ drop (i + 1) steps = drop_more steps i k (omega arith) ∙ ap (λ (e : Step). e ∷ drop (i + 1) steps) c.at.ensures in
    rw (p.1, p.2)
    (ends_there o s old c.loop-broker_ref.self c.step_with.new.self t (seen c.loop-broker_ref.observer) steps (drop (i + 1) steps) k c.in_err-step_with.field-0.0 w
    (subst (λ (es : List Step). GoesOn o s old c.loop-broker_ref.self t (seen c.loop-broker_ref.observer) steps es) left c.loop-broker_ref.invariant.goes) c.in_err-step_with.ensures.comes reached stands)
