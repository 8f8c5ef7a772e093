use Rattle.std.proofs.Common.{Bool, true, Ok, Result, ap, refl, subst, sym, ◌∙◌}
use Rattle.std.proofs.lemmas.Result.{err_from_is_err_and}
use Rattle.geo_base.specs.declared.memory.Memory.{Memory}
use Rattle.std.specs.Prelude.{Err}
use Rattle.geo_base.specs.Happening.{happens}
use Rattle.broker_state.specs.Plan.{PlanView}
use Rattle.world.specs.Foreseen.{IsHalfDone}
use Rattle.world.specs.World.{node_at}
use Rattle.kept_laws.specs.Events.{node_of}
use Rattle.world.proofs.Acting.{acts_from, acts_wants, broker_of, later_from, later_same, never_idle, ref_same, same_both, stands_from}
use Rattle.trace_runs.proofs.Growing.{happens_longer}
use Rattle.trace_runs.proofs.Knowing.{known_on, same_known}
use Rattle.trace_runs.proofs.ItemsTold.{event_told, rests_told}
use Rattle.trace_runs.proofs.trace.Trace.acts.Goals as goal

abbrev answered : Bool → Result Bool Memory
answered b = Ok b

pub returns-in_err-is_ready : goal.returns-in_err-is_ready
returns-in_err-is_ready c =
    let s = c.args.scenario.now.setup in let old = c.args.world.now in let mid = c.prepare.new.self in let same = c.prepare.ensures.same in
    let p = err_from_is_err_and c.from_residual.result c.from_residual.ensures.1 in
    record {
      told = λ w reached stands. rw p.1 tt;
      acts = λ w reached stands. rw (p.1, p.2) (acts_wants s old mid (happens s w c.args.event.now));
      at = c.prepare.ensures.at;
      later = later_same old mid same;
      idle = λ is. same;
      tables = rw p.1 tt;
      err = rw p.1 same;
    }

pub returns-then-not-is_ready : goal.returns-then-not-is_ready
returns-then-not-is_ready c =
    let s = c.args.scenario.now.setup in let old = c.args.world.now in let mid = c.prepare.new.self in let same = c.prepare.ensures.same in
    let idle = c.in_ok-is_ready.was ∙ ap answered c.if-not-is_ready.true in
    record {
      told = λ w reached stands. rests_told s old mid w c.args.event.now c.args.self.now.telling.text same stands (c.prepare.ensures.idle w reached stands idle);
      acts = λ w reached stands. c.prepare.ensures.idle w reached stands idle;
      at = c.prepare.ensures.at;
      later = later_same old mid same;
      idle = λ is. same;
      tables = same_known s c.args.self.now.telling.snapshots old mid same c.requires.tables;
      err = tt;
    }

pub tell_at-requires : goal.tell_at-requires
tell_at-requires c =
    let s = c.args.scenario.now.setup in let old = c.args.world.now in let mid = c.prepare.new.self in
    let half = c.prepare.ensures.ready (c.in_ok-is_ready.was ∙ ap answered c.if-not-is_ready.false) in
    record {
      at = c.prepare.ensures.at;
      tables = same_known s c.args.self.now.telling.snapshots old mid c.prepare.ensures.same c.requires.tables;
      broker = c.requires.broker;
      scripted = c.requires.scripted;
      broker_ref = broker_of c.args.scenario.now.setup c.args.world.now.links c.args.event.now c.broker_ref-broker_ref.result c.broker_ref-broker_ref.ensures;
      foreseen = half.foreseen;
    }

pub returns-in_err-tell_at : goal.returns-in_err-tell_at
returns-in_err-tell_at c =
    let s = c.args.scenario.now.setup in let old = c.args.world.now in let mid = c.prepare.new.self in let same = c.prepare.ensures.same in
    let p = err_from_is_err_and c.from_residual-in_err-tell_at.result c.from_residual-in_err-tell_at.ensures.1 in
    record {
      told = λ w reached stands. rw p.1 tt;
      acts = λ w reached stands. rw (p.1, p.2) (acts_wants s old mid (happens s w c.args.event.now));
      at = c.prepare.ensures.at;
      later = later_same old mid same;
      idle = λ is. same;
      tables = rw p.1 tt;
      err = rw p.1 same;
    }

pub finish-requires : goal.finish-requires
finish-requires c =
    let half = c.prepare.ensures.ready (c.in_ok-is_ready.was ∙ ap answered c.if-not-is_ready.false) in
    record {
      at = c.prepare.ensures.at;
      broker = c.requires.broker;
      scripted = c.requires.scripted;
      broker_ref = ref_same c.args.scenario.now.setup c.args.world.now c.prepare.new.self c.args.event.now c.broker_ref-broker_ref.result c.prepare.ensures.same c.broker_ref-broker_ref.ensures;
      ready = subst (λ (p : PlanView). IsHalfDone c.args.scenario.now.setup c.prepare.new.self c.args.event.now p) (sym c.tell_at.ensures.plan) half;
    }

pub returns-in_err-finish : goal.returns-in_err-finish
returns-in_err-finish c =
    let s = c.args.scenario.now.setup in let old = c.args.world.now in let mid = c.prepare.new.self in let new = c.finish.new.self in let same = c.prepare.ensures.same in
    let p = err_from_is_err_and c.from_residual-in_err-finish.result c.from_residual-in_err-finish.ensures.1 in
    record {
      told = λ w reached stands. rw p.1 tt;
      acts = λ w reached stands. rw (p.1, p.2) (acts_from s old mid new (happens s w c.args.event.now) (Err c.in_err-finish.field-0.0) same (c.in_err-finish.ensures.acts w reached (stands_from s old mid w same stands)));
      at = c.finish.ensures.at;
      later = later_from old mid new same c.finish.ensures.later;
      idle = λ is. same_both old mid new same c.in_err-finish.ensures.err;
      tables = rw p.1 tt;
      err = rw p.1 (same_both old mid new same c.in_err-finish.ensures.err);
    }

pub returns : goal.returns
returns c =
    let s = c.args.scenario.now.setup in let old = c.args.world.now in let mid = c.prepare.new.self in let new = c.finish.new.self in let same = c.prepare.ensures.same in
    let e = c.args.event.now in let h = c.prepare.ensures.at in let v = node_at mid.brokers (node_of s e) in
    let half = c.prepare.ensures.ready (c.in_ok-is_ready.was ∙ ap answered c.if-not-is_ready.false) in
    record {
      told = λ w reached stands.
          let there = stands_from s old mid w same stands in
          event_told s w e v c.prepare.new.plan c.write_count-writes.result w.events c.args.self.now.telling.text c.tell_at.new.self.telling.text c.requires.broker c.requires.scripted
          (half.foreseen w reached there) half.busy c.write_count-writes.ensures refl (c.in_ok-tell_at.ensures.told w reached there);
      acts = λ w reached stands. acts_from s old mid new (happens s w e) (Ok true) same (c.in_ok-finish.ensures.acts w reached (stands_from s old mid w same stands));
      at = c.finish.ensures.at;
      later = later_from old mid new same c.finish.ensures.later;
      idle = λ is. never_idle is;
      tables =
          let acted = c.in_ok-finish.ensures.acts h.world h.reached h.stands in
          known_on s c.tell_at.new.self.telling.snapshots mid new h.world (happens s h.world e) h.stands acted.0 (happens_longer s h.world e) c.in_ok-tell_at.ensures.tables;
      err = tt;
    }
