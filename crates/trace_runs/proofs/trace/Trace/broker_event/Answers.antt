use Rattle.std.proofs.Common.{Bool, Ok, Result, ap, ◌∙◌}
use Rattle.std.proofs.lemmas.Result.{err_from_is_err_and}
use Rattle.world.specs.declared.fault.RunFault.{RunFault}
use Rattle.world.proofs.Acting.{leads_failed, leads_idled}
use Rattle.world.proofs.After.{after_event}
use Rattle.world.proofs.ClientEvents.{nodes_idle}
use Rattle.world.proofs.Leading.{same_err}
use Rattle.world.proofs.Observing.{past_of}
use Rattle.trace_runs.proofs.ItemsTold.{always}
use Rattle.trace_runs.proofs.Knowing.{idled_known}
use Rattle.trace_runs.proofs.trace.Trace.broker_event.Goals as goal

pub returns-in_err-acts : goal.returns-in_err-acts
returns-in_err-acts c =
    let p = err_from_is_err_and c.from_residual.result c.from_residual.ensures.1 in
    record {
      told = λ w reached stands. rw p.1 tt;
      leads = λ w reached stands.
          rw (p.1, p.2) (leads_failed c.args.scenario.now.setup c.args.world.now c.acts.new.world _ c.in_err-acts.field-0.0 (c.in_err-acts.ensures.acts w reached stands));
      at = c.acts.ensures.at;
      tables = rw p.1 tt;
      past = λ n is. c.in_err-acts.ensures.err;
    }

pub idles-requires : goal.idles-requires
idles-requires c = c.acts.ensures.at.within

abbrev answered : Bool → Result Bool RunFault
answered b = Ok b

pub returns : goal.returns
returns c =
    let s = c.args.scenario.now.setup in let old = c.args.world.now in let mid = c.acts.new.world in let new = c.idles.new.self in let r = c.idles.result in
    let same = c.acts.ensures.idle (c.in_ok-acts.was ∙ ap answered c.if-branch.false) in
    record {
      told = λ w reached stands. always _ r (c.in_ok-acts.ensures.told w reached stands);
      leads = λ w reached stands.
          leads_idled s old mid new _ _ r c.if-branch.false (c.in_ok-acts.ensures.acts w reached stands) c.idles.ensures.ok c.idles.ensures.within c.idles.ensures.large;
      at =
          after_event s old new c.args.event.now r c.requires.at
          (λ w reached stands. leads_idled s old mid new _ _ r c.if-branch.false (c.in_ok-acts.ensures.acts w reached stands) c.idles.ensures.ok c.idles.ensures.within c.idles.ensures.large)
          (nodes_idle s mid new r c.acts.ensures.at c.idles.ensures.ok c.idles.ensures.err) (same_err old mid new r same c.idles.ensures.err);
      tables = idled_known s c.acts.new.self.telling.snapshots mid new r c.idles.ensures.ok c.in_ok-acts.ensures.tables;
      past = past_of _ r (same_err old mid new r same c.idles.ensures.err);
    }
