use Rattle.std.proofs.Common.{◌≡◌, Bool, true, Ok, Result, ap, length, subst, sym, ◌∙◌}
use Rattle.std.proofs.lemmas.Result.{err_from_is_err_and}
use Rattle.std.specs.Prelude.{Err}
use Rattle.broker_state.specs.Plan.{PlanView}
use Rattle.geo_base.specs.declared.memory.Memory.{Memory}
use Rattle.geo_base.specs.Happening.{happens}
use Rattle.step_lines.specs.Texts.{telling_of}
use Rattle.step_lines.proofs.Resting.{may_rest, rests_after, same_seen, seen_many}
use Rattle.step_lines.specs.declared.noted.NotedBroker.{NotedBroker}
use Rattle.step_lines.specs.Backlogs.{MayFollow}
use Rattle.step_lines.specs.Resting.{MayRest, Rests}
use Rattle.step_lines.proofs.Following.{event_known, same_known}
use Rattle.step_lines.proofs.Told.{acted, from_same, from_text, never_answered, ok_exceeds_none, rests, wants_no_limit}
use Rattle.world.specs.Foreseen.{IsHalfDone}
use Rattle.world.specs.World.{node_at}
use Rattle.kept_laws.specs.Events.{node_of}
use Rattle.world.proofs.Acting.{acts_from, acts_wants, broker_of, later_from, later_same, never_idle, ref_same, same_both, stands_from}
use Rattle.step_lines.proofs.steps.Steps.acts.Goals as goal

abbrev answered : Bool → Result Bool Memory
answered b = Ok b

pub returns-in_err-is_ready : goal.returns-in_err-is_ready
returns-in_err-is_ready c =
    let s = c.args.scenario.now.setup in let old = c.args.world.now in let mid = c.prepare.new.self in let same = c.prepare.ensures.same in
    let p = err_from_is_err_and c.from_residual.result c.from_residual.ensures.1 in
    record {
      told = λ w reached stands. rw p.1 tt;
      acts = λ w reached stands. rw (p.1, p.2) (acts_wants s old mid (happens s w c.args.event.now));
      at = c.prepare.ensures.at;
      later = later_same old mid same;
      knows = c.requires.knows;
      backlogs = rw p.1 tt;
      idle = λ is. same;
      past = λ n is. same;
    }

pub returns-then-not-is_ready : goal.returns-then-not-is_ready
returns-then-not-is_ready c =
    let s = c.args.scenario.now.setup in let old = c.args.world.now in let mid = c.prepare.new.self in let same = c.prepare.ensures.same in
    let idle = c.in_ok-is_ready.was ∙ ap answered c.if-not-is_ready.true in
    record {
      told = λ w reached stands. rests c.args.indent s old mid w c.args.event.now (telling_of c.args.self.now.telling) same stands (c.prepare.ensures.idle w reached stands idle);
      acts = λ w reached stands. c.prepare.ensures.idle w reached stands idle;
      at = c.prepare.ensures.at;
      later = later_same old mid same;
      knows = c.requires.knows;
      backlogs = same_known c.args.self.now.backlogs old mid same c.requires.backlogs;
      idle = λ is. same;
      past = λ n is. same;
    }

pub note-requires : goal.note-requires
note-requires c =
    record {
      at = c.prepare.ensures.at;
      broker = c.requires.broker;
      scripted = c.requires.scripted;
      broker_ref = broker_of c.args.scenario.now.setup c.args.world.now.links c.args.event.now c.broker_ref-broker_ref.result c.broker_ref-broker_ref.ensures;
      backlogs = same_known c.args.self.now.backlogs c.args.world.now c.prepare.new.self c.prepare.ensures.same c.requires.backlogs;
    }

pub returns-in_err-note : goal.returns-in_err-note
returns-in_err-note c =
    let s = c.args.scenario.now.setup in let old = c.args.world.now in let mid = c.prepare.new.self in let same = c.prepare.ensures.same in
    let p = err_from_is_err_and c.from_residual-in_err-note.result c.from_residual-in_err-note.ensures.1 in
    record {
      told = λ w reached stands. rw p.1 tt;
      acts = λ w reached stands. rw (p.1, p.2) (acts_wants s old mid (happens s w c.args.event.now));
      at = c.prepare.ensures.at;
      later = later_same old mid same;
      knows = from_same s c.args.self.now.telling c.note.new.self.telling c.note.ensures.telling c.requires.knows;
      backlogs = rw p.1 tt;
      idle = λ is. same;
      past = λ n is. same;
    }

pub follow-requires : goal.follow-requires
follow-requires c =
    record {
      at = c.prepare.ensures.at;
      broker = c.requires.broker;
      scripted = c.requires.scripted;
      broker_ref = broker_of c.args.scenario.now.setup c.args.world.now.links c.args.event.now c.broker_ref-broker_ref.result c.broker_ref-broker_ref.ensures;
      has = c.in_ok-note.ensures.has;
      backlogs = c.in_ok-note.ensures.backlogs;
    }

pub returns-in_err-follow : goal.returns-in_err-follow
returns-in_err-follow c =
    let s = c.args.scenario.now.setup in let old = c.args.world.now in let mid = c.prepare.new.self in let same = c.prepare.ensures.same in
    let p = err_from_is_err_and c.from_residual-in_err-follow.result c.from_residual-in_err-follow.ensures.1 in
    record {
      told = λ w reached stands. rw p.1 tt;
      acts = λ w reached stands. rw (p.1, p.2) (acts_wants s old mid (happens s w c.args.event.now));
      at = c.prepare.ensures.at;
      later = later_same old mid same;
      knows = from_same s c.args.self.now.telling c.follow.new.self.telling (c.follow.ensures.telling ∙ c.note.ensures.telling) c.requires.knows;
      backlogs = rw p.1 tt;
      idle = λ is. same;
      past = λ n is. same;
    }

pub finish-requires : goal.finish-requires
finish-requires c =
    let half = c.prepare.ensures.ready (c.in_ok-is_ready.was ∙ ap answered c.if-not-is_ready.false) in
    record {
      at = c.prepare.ensures.at;
      broker = c.requires.broker;
      scripted = c.requires.scripted;
      broker_ref = ref_same c.args.scenario.now.setup c.args.world.now c.prepare.new.self c.args.event.now c.broker_ref-broker_ref.result c.prepare.ensures.same c.broker_ref-broker_ref.ensures;
      ready = subst (λ (p : PlanView). IsHalfDone c.args.scenario.now.setup c.prepare.new.self c.args.event.now p) (sym (c.follow.ensures.plan ∙ c.note.ensures.plan)) half;
    }

pub returns-in_err-finish : goal.returns-in_err-finish
returns-in_err-finish c =
    let s = c.args.scenario.now.setup in let old = c.args.world.now in let mid = c.prepare.new.self in let new = c.finish.new.self in let same = c.prepare.ensures.same in
    let p = err_from_is_err_and c.from_residual-in_err-finish.result c.from_residual-in_err-finish.ensures.1 in
    record {
      told = λ w reached stands. rw p.1 tt;
      acts = λ w reached stands. rw (p.1, p.2) (acts_from s old mid new (happens s w c.args.event.now) (Err c.in_err-finish.field-0.0) same (c.in_err-finish.ensures.acts w reached (stands_from s old mid w same stands)));
      at = c.finish.ensures.at;
      later = later_from old mid new same c.finish.ensures.later;
      knows = from_same s c.args.self.now.telling c.follow.new.self.telling (c.follow.ensures.telling ∙ c.note.ensures.telling) c.requires.knows;
      backlogs = rw p.1 tt;
      idle = λ is. same_both old mid new same c.in_err-finish.ensures.err;
      past = λ n is. same_both old mid new same c.in_err-finish.ensures.err;
    }

pub tell_event-requires : goal.tell_event-requires
tell_event-requires c =
    let s = c.args.scenario.now.setup in let e = c.args.event.now in let mid = c.prepare.new.self in let new = c.finish.new.self in let h = c.prepare.ensures.at in
    let half = c.prepare.ensures.ready (c.in_ok-is_ready.was ∙ ap answered c.if-not-is_ready.false) in
    let r = c.note.new.self.rests in let b = (node_at mid.brokers (node_of s e)).broker in let a = (node_at new.brokers (node_of s e)).broker in
    let led = (c.in_ok-finish.ensures.acts h.world h.reached h.stands).0 in let seen = half.foreseen h.world h.reached h.stands in
    let rests : r ≡ true → Rests b a = λ is.
    let known = c.note.ensures.rests is in
    rests_after s h.world mid new e c.prepare.new.plan c.requires.broker c.requires.scripted h c.finish.ensures.at h.stands led seen half.busy (sym c.writes_replicators_alone-may_rest.ensures ∙ known.0) known.1 in
    record {
      at = c.finish.ensures.at;
      knows = from_same s c.args.self.now.telling c.follow.new.self.telling (c.follow.ensures.telling ∙ c.note.ensures.telling) c.requires.knows;
      broker = c.requires.broker;
      scripted = c.requires.scripted;
      broker_ref = broker_of c.args.scenario.now.setup c.args.world.now.links c.args.event.now c.broker_ref-broker_ref.result c.broker_ref-broker_ref.ensures;
      noted =
          ap (λ (k : NotedBroker). length k.replicators.items) c.follow.ensures.noted
          ∙ seen_many r (length s.clusters) b c.note.new.self.noted c.in_ok-note.ensures.noted;
      backlogs =
          event_known s h.world mid new e c.prepare.new.plan r c.note.new.self.backlogs c.follow.new.self.backlogs c.requires.broker c.requires.scripted h c.finish.ensures.at h.stands led seen half.busy rests
          (λ per. subst (λ (p : PlanView). MayFollow r (node_of s e) per b p c.note.new.self.backlogs c.follow.new.self.backlogs) c.note.ensures.plan (c.in_ok-follow.ensures.followed per))
          c.in_ok-note.ensures.backlogs;
    }

pub returns-in_err-tell_event : goal.returns-in_err-tell_event
returns-in_err-tell_event c =
    let s = c.args.scenario.now.setup in let old = c.args.world.now in let mid = c.prepare.new.self in let new = c.finish.new.self in let same = c.prepare.ensures.same in
    let p = err_from_is_err_and c.from_residual-in_err-tell_event.result c.from_residual-in_err-tell_event.ensures.1 in
    record {
      told = λ w reached stands. rw p.1 tt;
      acts = λ w reached stands. rw (p.1, p.2) (acts_wants s old new (happens s w c.args.event.now));
      at = c.finish.ensures.at;
      later = later_from old mid new same c.finish.ensures.later;
      knows = c.tell_event.ensures.knows;
      backlogs = rw p.1 tt;
      idle = rw (p.1, p.2) (λ is. never_answered is);
      past = λ n. rw (p.1, p.2) (wants_no_limit Bool _ n);
    }

pub returns : goal.returns
returns c =
    let s = c.args.scenario.now.setup in let old = c.args.world.now in let mid = c.prepare.new.self in let new = c.finish.new.self in let same = c.prepare.ensures.same in
    let half = c.prepare.ensures.ready (c.in_ok-is_ready.was ∙ ap answered c.if-not-is_ready.false) in
    record {
      told = λ w reached stands.
          let there = stands_from s old mid w same stands in
          let e = c.args.event.now in let b = (node_at mid.brokers (node_of s e)).broker in let a = (node_at new.brokers (node_of s e)).broker in let r = c.note.new.self.rests in
          let rested = may_rest r b a
          (λ is.
          let known = c.note.ensures.rests is in
          rests_after s w mid new e c.prepare.new.plan c.requires.broker c.requires.scripted c.prepare.ensures.at c.finish.ensures.at there (c.in_ok-finish.ensures.acts w reached there).0
          (half.foreseen w reached there) half.busy (sym c.writes_replicators_alone-may_rest.ensures ∙ known.0) known.1) in
          acted c.args.indent s w mid new e c.prepare.new.plan (telling_of c.args.self.now.telling) (telling_of c.tell_event.new.self.telling)
          c.requires.broker c.requires.scripted c.prepare.ensures.at c.finish.ensures.at there (c.in_ok-finish.ensures.acts w reached there).0 (half.foreseen w reached there) half.busy
          (from_text c.args.indent s new e b c.args.self.now.telling c.follow.new.self.telling _ (c.follow.ensures.telling ∙ c.note.ensures.telling)
          (c.in_ok-tell_event.ensures.told b
          (same_seen r c.follow.new.self.rests (length s.clusters) b c.note.new.self.noted c.follow.new.self.noted c.follow.ensures.rests c.follow.ensures.noted c.in_ok-note.ensures.noted)
          (subst (λ (t : Bool). MayRest t b a) (sym c.follow.ensures.rests) rested)));
      acts = λ w reached stands. acts_from s old mid new (happens s w c.args.event.now) (Ok true) same (c.in_ok-finish.ensures.acts w reached (stands_from s old mid w same stands));
      at = c.finish.ensures.at;
      later = later_from old mid new same c.finish.ensures.later;
      knows = c.tell_event.ensures.knows;
      backlogs = c.in_ok-tell_event.ensures.backlogs;
      idle = λ is. never_idle is;
      past = λ n is. ok_exceeds_none is;
    }
