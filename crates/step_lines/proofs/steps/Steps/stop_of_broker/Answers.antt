use Rattle.std.proofs.Common.{◌≡◌, ℕ, ◌<◌, Ok, false, length, subst, sym}
use Rattle.step_lines.specs.Backlogs.{SameOthers, known_at}
use Rattle.step_lines.proofs.Following.{halt_known, never_rests, number_there}
use Rattle.world.proofs.Places.{cluster_below, topic_below}
use Rattle.std.proofs.lemmas.Bool.{false≢true}
use Rattle.std.proofs.lemmas.Result.{err_from_is_err_and}
use Rattle.step_lines.specs.declared.heads.Indent.TheVariants as indent
use Rattle.step_lines.specs.Texts.{telling_of}
use Rattle.step_lines.proofs.Resting.{may_rest, seen_many}
use Rattle.step_lines.proofs.Told.{from_same, from_text, halted, wants_no_limit}
use Rattle.world.specs.World.{node_at}
use Rattle.kept_laws.specs.Events.{node_of}
use Rattle.world.proofs.Acting.{broker_of}
use Rattle.world.proofs.Leading.{wants}
use Rattle.world.proofs.Observing.{past_of}
use Rattle.step_lines.proofs.steps.Steps.stop_of_broker.Goals as goal

pub note-requires : goal.note-requires
note-requires c = record { at = c.requires.at; broker = c.requires.broker; scripted = c.requires.scripted; broker_ref = broker_of c.args.scenario.now.setup c.args.world.now.links c.args.event.now c.broker_ref-broker_ref.result c.broker_ref-broker_ref.ensures; backlogs = c.requires.backlogs }

pub returns-in_err-note : goal.returns-in_err-note
returns-in_err-note c =
    let p = err_from_is_err_and c.from_residual.result c.from_residual.ensures.1 in
    record {
      told = λ w reached stands. rw p.1 tt;
      leads = λ w reached stands. rw (p.1, p.2) (wants c.args.scenario.now.setup c.args.world.now c.args.world.now _);
      at = c.requires.at;
      knows = rw p.1 tt;
      backlogs = rw p.1 tt;
      past = λ n. rw (p.1, p.2) (wants_no_limit (Unit {0}) _ n);
    }

pub returns-in_err-halt : goal.returns-in_err-halt
returns-in_err-halt c =
    let p = err_from_is_err_and c.from_residual-in_err-halt.result c.from_residual-in_err-halt.ensures.1 in
    record {
      told = λ w reached stands. rw p.1 tt;
      leads = λ w reached stands. rw (p.1, p.2) (c.in_err-halt.ensures.leads w reached stands);
      at = c.halt.ensures.at;
      knows = rw p.1 tt;
      backlogs = rw p.1 tt;
      past = λ n is. c.in_err-halt.ensures.err;
    }

pub number_of-requires : goal.number_of-requires
number_of-requires c =
    let s = c.args.scenario.now.setup in let e = c.args.event.now in
    let of = broker_of s c.args.world.now.links e c.broker_ref-broker_ref.result c.broker_ref-broker_ref.ensures in
    record {
      topic = topic_below s c.args.world.now e c.broker_ref-broker_ref.result.topic c.requires.at c.requires.broker c.requires.scripted of.topic;
      cluster = cluster_below s e c.broker_ref-broker_ref.result.cluster c.requires.broker c.requires.scripted of.cluster;
    }

pub forget-requires : goal.forget-requires
forget-requires c =
    let s = c.args.scenario.now.setup in let e = c.args.event.now in
    let of = broker_of s c.args.world.now.links e c.broker_ref-broker_ref.result c.broker_ref-broker_ref.ensures in
    subst (λ (n : ℕ). n < length c.note.new.self.backlogs) (sym (number_there s e c.broker_ref-broker_ref.result c.number_of.result of c.number_of.ensures))
    (c.in_ok-note.ensures.has (never_rests c.note.new.self.rests (λ is. (c.note.ensures.rests is).0)))

pub tell_event-requires : goal.tell_event-requires
tell_event-requires c =
    let s = c.args.scenario.now.setup in let e = c.args.event.now in let h = c.requires.at in
    let of = broker_of s c.args.world.now.links e c.broker_ref-broker_ref.result c.broker_ref-broker_ref.ensures in
    let there = number_there s e c.broker_ref-broker_ref.result c.number_of.result of c.number_of.ensures in
    record {
      at = c.halt.ensures.at;
      knows = from_same c.args.scenario.now.setup c.args.self.now.telling c.note.new.self.telling c.note.ensures.telling c.requires.knows;
      broker = c.requires.broker;
      scripted = c.requires.scripted;
      broker_ref = of;
      noted =
          seen_many c.note.new.self.rests (length c.args.scenario.now.setup.clusters) (node_at c.args.world.now.brokers (node_of c.args.scenario.now.setup c.args.event.now)).broker c.note.new.self.noted
          c.in_ok-note.ensures.noted;
      backlogs =
          halt_known s h.world c.args.world.now c.halt.new.self c.args.writes e c.note.new.self.backlogs c.forget.new.self c.requires.broker c.requires.scripted h h.stands
          (c.in_ok-halt.ensures.leads h.world h.reached h.stands).done.0
          (subst (λ (n : ℕ). (known_at c.forget.new.self n).is_known ≡ false) there c.forget.ensures.forgot)
          (subst (λ (n : ℕ). SameOthers n c.note.new.self.backlogs c.forget.new.self) there c.forget.ensures.others) c.in_ok-note.ensures.backlogs;
    }

pub returns-in_err-tell_event : goal.returns-in_err-tell_event
returns-in_err-tell_event c =
    let p = err_from_is_err_and c.from_residual-in_err-tell_event.result c.from_residual-in_err-tell_event.ensures.1 in
    record {
      told = λ w reached stands. rw p.1 tt;
      leads = λ w reached stands. rw (p.1, p.2) (wants c.args.scenario.now.setup c.args.world.now c.halt.new.self _);
      at = c.halt.ensures.at;
      knows = rw p.1 tt;
      backlogs = rw p.1 tt;
      past = λ n. rw (p.1, p.2) (wants_no_limit (Unit {0}) _ n);
    }

pub returns : goal.returns
returns c =
    let s = c.args.scenario.now.setup in
    record {
      told = λ w reached stands.
          let e = c.args.event.now in let b = (node_at c.args.world.now.brokers (node_of s e)).broker in let a = (node_at c.halt.new.self.brokers (node_of s e)).broker in
          let rested = may_rest c.note.new.self.rests b a (λ is. absurd (false≢true (c.note.ensures.rests is).0)) in
          halted s w c.args.writes c.args.world.now c.halt.new.self e (telling_of c.args.self.now.telling) (telling_of c.tell_event.new.self.telling)
          c.requires.broker c.requires.scripted c.requires.at c.halt.ensures.at stands (c.in_ok-halt.ensures.leads w reached stands).done.0
          (from_text indent.Step s c.halt.new.self e b c.args.self.now.telling c.note.new.self.telling _ c.note.ensures.telling (c.in_ok-tell_event.ensures.told b c.in_ok-note.ensures.noted rested));
      leads = λ w reached stands. c.in_ok-halt.ensures.leads w reached stands;
      at = c.halt.ensures.at;
      knows = c.tell_event.ensures.knows;
      backlogs = c.in_ok-tell_event.ensures.backlogs;
      past = past_of _ (Ok tt) tt;
    }
