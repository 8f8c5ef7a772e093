use Rattle.std.proofs.Common.{ap, sym, subst, ◌∙◌}
use Rattle.std.specs.Prelude.{OnErr}
use Rattle.geo_base.specs.Happening.{happens}
use Rattle.kept_laws.specs.Standing.{Stands}
use Rattle.world.specs.Steps.{Acts, IsLater, broker_ref_at}
use Rattle.std.proofs.lemmas.Result.{err_from_is_err_and}
use Rattle.world.specs.World.{IsAt, SameWorld, WorldView, kept_of}
use Rattle.world.proofs.Acting.{acts_wants, later_same}
use Rattle.world.proofs.Places.{at_same}
use Rattle.world.proofs.Waiting.{acts_waiting, same_itself}
use Rattle.world.proofs.world.World.acts.Goals as goal

pub returns-then-is_waiting : goal.returns-then-is_waiting
returns-then-is_waiting c =
    let b = c.args.self.now in
    record {
      acts = λ w reached stands.
          acts_waiting c.args.scenario.now.setup b w c.args.event.now c.broker_ref-broker_ref.result c.requires.at c.requires.broker c.requires.scripted c.broker_ref-broker_ref.ensures
          (c.is_waiting.ensures c.if-is_waiting.true) reached stands;
      at = c.requires.at;
      later = later_same b b (same_itself b);
      idle = λ is. same_itself b;
      err = tt;
    }

pub returns-in_err-plan : goal.returns-in_err-plan
returns-in_err-plan c =
    let s = c.args.scenario.now.setup in let old = c.args.self.now in let mid = c.take_plan.new.self in
    let same = subst (λ (b : WorldView). SameWorld old b) (sym c.take_plan.ensures.same) (same_itself old) in
    let p = err_from_is_err_and c.from_residual.result c.from_residual.ensures.1 in
    record {
      acts = λ w reached stands. rw (p.1, p.2) (acts_wants s old mid (happens s w c.args.event.now));
      at = at_same s old mid c.requires.at same;
      later = later_same old mid same;
      idle = λ is. same;
      err = rw p.1 same;
    }

pub acts_in-acted-requires-clause-at : goal.acts_in-acted-requires-clause-at
acts_in-acted-requires-clause-at c = subst (λ (b : WorldView). IsAt c.args.scenario.now.setup b) (sym c.take_plan.ensures.same) c.requires.at

-- the plan is taken out before, and kept behind
pub returns : goal.returns
returns c =
    let s = c.args.scenario.now.setup in let old = c.args.self.now in let new = c.acts_in-acted.new.self in let r = c.acts_in-acted.result in
    let before = c.take_plan.ensures.same in let behind = c.keep_plan.ensures in let acted = c.acts_in-acted.ensures in
    record {
      acts = λ w reached stands.
          let next = happens s w c.args.event.now in
          let acts = acted.acts w reached (subst (λ (b : WorldView). Stands s (kept_of b) w) (sym before) stands) in
          subst (λ (b : WorldView). Acts s old b next r) (sym behind) (subst (λ (b : WorldView). Acts s b new next r) before acts);
      at = subst (λ (b : WorldView). IsAt s b) (sym behind) acted.at;
      later = subst (λ (b : WorldView). IsLater old b) (sym behind) (subst (λ (b : WorldView). IsLater b new) before acted.later);
      idle = λ is. subst (λ (b : WorldView). SameWorld old b) (sym behind) (subst (λ (b : WorldView). SameWorld b new) before (acted.idle is));
      err = subst (λ (b : WorldView). OnErr r (SameWorld old b)) (sym behind) (subst (λ (b : WorldView). OnErr r (SameWorld b new)) before acted.err);
    }

pub acts_in-acted-requires-clause-broker_ref : goal.acts_in-acted-requires-clause-broker_ref
acts_in-acted-requires-clause-broker_ref c =
    c.broker_ref-broker_ref.ensures ∙ ap (λ (b : WorldView). broker_ref_at c.args.scenario.now.setup b.links c.args.event.now) (sym c.take_plan.ensures.same)
