use Rattle.std.proofs.Common.{Bool, Ok, Result, ap, ◌∙◌}
use Rattle.std.proofs.lemmas.Result.{err_from_is_err_and}
use Rattle.step_lines.specs.Texts.{telling_of}
use Rattle.step_lines.proofs.Following.{idled_known}
use Rattle.step_lines.proofs.Told.{always, idle_told, step_told}
use Rattle.world.specs.declared.fault.RunFault.{RunFault}
use Rattle.world.specs.declared.fault.RunFault.TheVariants as fault
use Rattle.world.proofs.Acting.{leads_acted, leads_failed, leads_idled}
use Rattle.world.proofs.After.{after_event}
use Rattle.world.proofs.ClientEvents.{nodes_idle}
use Rattle.world.proofs.Leading.{same_err, wants}
use Rattle.world.proofs.Observing.{past_of, same_fault}
use Rattle.step_lines.proofs.steps.Steps.broker_event.Goals as goal

abbrev answered : Bool → Result Bool RunFault
answered b = Ok b

pub returns-in_err-acts : goal.returns-in_err-acts
returns-in_err-acts c =
    let p = err_from_is_err_and c.from_residual.result c.from_residual.ensures.1 in
    record {
      told = λ w reached stands. rw p.1 tt;
      leads = λ w reached stands.
          rw (p.1, p.2) (leads_failed c.args.scenario.now.setup c.args.world.now c.acts.new.world _ c.in_err-acts.field-0.0 (c.in_err-acts.ensures.acts w reached stands));
      at = c.acts.ensures.at;
      knows = rw p.1 tt;
      backlogs = rw p.1 tt;
      past = λ n. rw (p.1, p.2) (λ is. c.in_err-acts.ensures.past n (same_fault (Unit {0}) Bool c.in_err-acts.field-0.0 (fault.TooLarge n) is));
    }

pub returns-then-branch : goal.returns-then-branch
returns-then-branch c =
    record {
      told = λ w reached stands.
          step_told c.args.scenario.now.setup w c.args.event.now (telling_of c.args.self.now.telling) (telling_of c.acts.new.self.telling) _ c.if-branch.true (c.in_ok-acts.ensures.told w reached stands);
      leads = λ w reached stands. leads_acted c.args.scenario.now.setup c.args.world.now c.acts.new.world _ _ c.if-branch.true (c.in_ok-acts.ensures.acts w reached stands);
      at = c.acts.ensures.at;
      knows = c.acts.ensures.knows;
      backlogs = c.in_ok-acts.ensures.backlogs;
      past = λ n is. past_of _ (Ok tt) tt n is;
    }

pub add_step-requires : goal.add_step-requires
add_step-requires c = c.acts.ensures.knows.rises

pub returns-in_err-add_step : goal.returns-in_err-add_step
returns-in_err-add_step c =
    let same = c.acts.ensures.idle (c.in_ok-acts.was ∙ ap answered c.if-branch.false) in
    let p = err_from_is_err_and c.from_residual-in_err-add_step.result c.from_residual-in_err-add_step.ensures.1 in
    record {
      told = λ w reached stands. rw p.1 tt;
      leads = λ w reached stands. rw (p.1, p.2) (wants c.args.scenario.now.setup c.args.world.now c.acts.new.world _);
      at = c.acts.ensures.at;
      knows = rw p.1 tt;
      backlogs = rw p.1 tt;
      past = λ n is. same;
    }

pub idles-requires : goal.idles-requires
idles-requires c = c.acts.ensures.at.within

pub returns : goal.returns
returns c =
    let s = c.args.scenario.now.setup in let old = c.args.world.now in let mid = c.acts.new.world in let new = c.idles.new.self in let r = c.idles.result in
    let same = c.acts.ensures.idle (c.in_ok-acts.was ∙ ap answered c.if-branch.false) in
    record {
      told = λ w reached stands.
          always _ r (idle_told s w c.args.event.now (telling_of c.args.self.now.telling) (telling_of c.acts.new.self.telling) _ _ c.if-branch.false (c.in_ok-acts.ensures.told w reached stands) c.in_ok-add_step.ensures.told);
      leads = λ w reached stands.
          leads_idled s old mid new _ _ r c.if-branch.false (c.in_ok-acts.ensures.acts w reached stands) c.idles.ensures.ok c.idles.ensures.within c.idles.ensures.large;
      at =
          after_event s old new c.args.event.now r c.requires.at
          (λ w reached stands. leads_idled s old mid new _ _ r c.if-branch.false (c.in_ok-acts.ensures.acts w reached stands) c.idles.ensures.ok c.idles.ensures.within c.idles.ensures.large)
          (nodes_idle s mid new r c.acts.ensures.at c.idles.ensures.ok c.idles.ensures.err) (same_err old mid new r same c.idles.ensures.err);
      knows = always _ r (record { names = c.add_step.ensures.names ∙ c.acts.ensures.knows.names; rises = c.add_step.ensures.rises });
      backlogs = idled_known c.acts.new.self.backlogs mid new r c.idles.ensures.ok c.in_ok-acts.ensures.backlogs;
      past = past_of _ r (same_err old mid new r same c.idles.ensures.err);
    }
