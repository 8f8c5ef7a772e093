use Rattle.std.proofs.Common.{Bool, Ok, Result, ap, ◌∙◌}
use Rattle.std.proofs.lemmas.Result.{err_from_is_err_and}
use Rattle.world.specs.declared.fault.RunFault.{RunFault}
use Rattle.world.proofs.Acting.{leads_failed, leads_idled}
use Rattle.world.proofs.ClientEvents.{nodes_idle}
use Rattle.world.proofs.Leading.{same_err}
use Rattle.world.proofs.world.World.broker_event.Goals as goal

pub returns-in_err-acts : goal.returns-in_err-acts
returns-in_err-acts c =
    let p = err_from_is_err_and c.from_residual.result c.from_residual.ensures.1 in
    record {
      leads = λ w reached stands.
          rw (p.1, p.2) (leads_failed c.args.scenario.now.setup c.args.self.now c.acts.new.self _ c.in_err-acts.field-0.0 (c.in_err-acts.ensures.acts w reached stands));
      brokers = c.acts.ensures.at.brokers;
      err = rw p.1 c.in_err-acts.ensures.err;
    }

pub idles-requires : goal.idles-requires
idles-requires c = c.acts.ensures.at.within

abbrev answered : Bool → Result Bool RunFault
answered b = Ok b

pub returns : goal.returns
returns c =
    let s = c.args.scenario.now.setup in let old = c.args.self.now in let mid = c.acts.new.self in let new = c.idles.new.self in let r = c.idles.result in
    record {
      leads = λ w reached stands.
          leads_idled s old mid new _ _ r c.if-branch.false (c.in_ok-acts.ensures.acts w reached stands) c.idles.ensures.ok c.idles.ensures.within c.idles.ensures.large;
      brokers = nodes_idle s mid new r c.acts.ensures.at c.idles.ensures.ok c.idles.ensures.err;
      err = same_err old mid new r (c.acts.ensures.idle (c.in_ok-acts.was ∙ ap answered c.if-branch.false)) c.idles.ensures.err;
    }
