use Rattle.std.proofs.Common.{Bool, true, Ok, Result, ap, ◌∙◌}
use Rattle.std.proofs.lemmas.Result.{err_from_is_err_and}
use Rattle.std.specs.Prelude.{Err}
use Rattle.geo_base.specs.Happening.{happens}
use Rattle.geo_base.specs.declared.memory.Memory.{Memory}
use Rattle.world.proofs.Acting.{acts_from, acts_wants, later_from, later_same, never_idle, ref_same, same_both, stands_from}
use Rattle.world.proofs.world.World.acts_in.Goals as goal

abbrev answered : Bool → Result Bool Memory
answered b = Ok b

pub returns-in_err-is_ready : goal.returns-in_err-is_ready
returns-in_err-is_ready c =
    let s = c.args.scenario.now.setup in let old = c.args.self.now in let mid = c.prepare_enabled.new.self in let same = c.prepare_enabled.ensures.same in
    let p = err_from_is_err_and c.from_residual.result c.from_residual.ensures.1 in
    record {
      acts = λ w reached stands. rw (p.1, p.2) (acts_wants s old mid (happens s w c.args.event.now));
      at = c.prepare_enabled.ensures.at;
      later = later_same old mid same;
      idle = λ is. same;
      err = rw p.1 same;
      empty = c.in_err-is_ready.ensures.err;
    }

pub returns-then-not-is_ready : goal.returns-then-not-is_ready
returns-then-not-is_ready c =
    let s = c.args.scenario.now.setup in let old = c.args.self.now in let mid = c.prepare_enabled.new.self in let same = c.prepare_enabled.ensures.same in
    let idle = c.in_ok-is_ready.was ∙ ap answered c.if-not-is_ready.true in
    record {
      acts = λ w reached stands. c.prepare_enabled.ensures.idle w reached stands idle;
      at = c.prepare_enabled.ensures.at;
      later = later_same old mid same;
      idle = λ is. same;
      err = tt;
      empty = c.prepare_enabled.ensures.empty idle;
    }

pub finish-requires : goal.finish-requires
finish-requires c = record {
  at = c.prepare_enabled.ensures.at;
  broker = c.requires.broker;
  scripted = c.requires.scripted;
  broker_ref = ref_same c.args.scenario.now.setup c.args.self.now c.prepare_enabled.new.self c.args.event.now c.args.broker_ref c.prepare_enabled.ensures.same c.requires.broker_ref;
  ready = c.prepare_enabled.ensures.ready (c.in_ok-is_ready.was ∙ ap answered c.if-not-is_ready.false);
}

pub returns-in_err-finish : goal.returns-in_err-finish
returns-in_err-finish c =
    let s = c.args.scenario.now.setup in let old = c.args.self.now in let mid = c.prepare_enabled.new.self in let new = c.finish.new.self in
    let same = c.prepare_enabled.ensures.same in
    let p = err_from_is_err_and c.from_residual-in_err-finish.result c.from_residual-in_err-finish.ensures.1 in
    record {
      acts = λ w reached stands. rw (p.1, p.2) (acts_from s old mid new (happens s w c.args.event.now) (Err c.in_err-finish.field-0.0) same (c.in_err-finish.ensures.acts w reached (stands_from s old mid w same stands)));
      at = c.finish.ensures.at;
      later = later_from old mid new same c.finish.ensures.later;
      idle = λ is. same_both old mid new same c.in_err-finish.ensures.err;
      err = rw p.1 (same_both old mid new same c.in_err-finish.ensures.err);
      empty = c.finish.ensures.empty;
    }

pub returns : goal.returns
returns c =
    let s = c.args.scenario.now.setup in let old = c.args.self.now in let mid = c.prepare_enabled.new.self in let new = c.finish.new.self in
    let same = c.prepare_enabled.ensures.same in
    record {
      acts = λ w reached stands. acts_from s old mid new (happens s w c.args.event.now) (Ok true) same (c.in_ok-finish.ensures.acts w reached (stands_from s old mid w same stands));
      at = c.finish.ensures.at;
      later = later_from old mid new same c.finish.ensures.later;
      idle = λ is. never_idle is;
      err = tt;
      empty = c.finish.ensures.empty;
    }
