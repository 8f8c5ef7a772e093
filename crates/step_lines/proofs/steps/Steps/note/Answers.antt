use Rattle.std.proofs.Common.{◌≡◌, ℕ, ◌<◌, Bool, true, false, ap, length, subst, sym, ◌∙◌}
use Rattle.std.proofs.lemmas.Bool.{false≢true}
use Rattle.step_lines.specs.Backlogs.{KnownBacklogs, SameOthers, TellsBacklogs, backlogs_of, known_at}
use Rattle.step_lines.proofs.Following.{asked_known, number_there, tells_there}
use Rattle.std.specs.Prelude.{OnOk}
use Rattle.step_lines.specs.Resting.{IsSeen}
use Rattle.step_lines.proofs.Told.{always, noted_there, place_there}
use Rattle.world.proofs.Places.{cluster_below, topic_below}
use Rattle.world.specs.World.{node_at}
use Rattle.kept_laws.specs.Events.{node_of}
use Rattle.step_lines.proofs.steps.Steps.note.Goals as goal

pub topic-broker-requires : goal.topic-broker-requires
topic-broker-requires c =
    let s = c.args.scenario.now.setup in let e = c.args.event.now in
    record {
      brokers = c.requires.at.brokers;
      topic = topic_below s c.args.world.now e c.args.broker_ref.topic c.requires.at c.requires.broker c.requires.scripted c.requires.broker_ref.topic;
      cluster = cluster_below s e c.args.broker_ref.cluster c.requires.broker c.requires.scripted c.requires.broker_ref.cluster;
    }

pub returns-then-self-clause-noted : goal.returns-then-self-clause-noted
returns-then-self-clause-noted c =
    let s = c.args.scenario.now.setup in let e = c.args.event.now in let brokers = c.args.world.now.brokers in let u = c.topic-broker.result.now in let k = c.note_replicators.new.self in
    subst (λ (r : Bool). OnOk c.note_replicators.result (IsSeen r (length s.clusters) (node_at brokers (node_of s e)).broker k)) (sym c.if-self.true)
    (noted_there true s c.args.world.now e u k c.note_replicators.result c.requires.at c.requires.broker c.requires.scripted (place_there s e brokers c.args.broker_ref u c.requires.broker_ref c.topic-broker.ensures)
    c.note_replicators.ensures)

pub returns-clause-noted : goal.returns-clause-noted
returns-clause-noted c =
    let s = c.args.scenario.now.setup in let e = c.args.event.now in let brokers = c.args.world.now.brokers in let u = c.topic-broker.result.now in let k = c.note.new.self in
    subst (λ (r : Bool). OnOk c.note.result (IsSeen r (length s.clusters) (node_at brokers (node_of s e)).broker k)) (sym c.if-self.false)
    (noted_there false s c.args.world.now e u k c.note.result c.requires.at c.requires.broker c.requires.scripted (place_there s e brokers c.args.broker_ref u c.requires.broker_ref c.topic-broker.ensures) c.note.ensures)

pub number_of-number-requires : goal.number_of-number-requires
number_of-number-requires c =
    let s = c.args.scenario.now.setup in let e = c.args.event.now in
    record {
      topic = topic_below s c.args.world.now e c.args.broker_ref.topic c.requires.at c.requires.broker c.requires.scripted c.requires.broker_ref.topic;
      cluster = cluster_below s e c.args.broker_ref.cluster c.requires.broker c.requires.scripted c.requires.broker_ref.cluster;
    }

pub know-requires : goal.know-requires
know-requires c =
    let s = c.args.scenario.now.setup in let e = c.args.event.now in let brokers = c.args.world.now.brokers in let u = c.topic-broker.result.now in
    subst (λ (n : ℕ). TellsBacklogs (known_at c.args.self.now.backlogs n) u.broker) (sym (number_there s e c.args.broker_ref _ c.requires.broker_ref c.number_of-number.ensures))
    (tells_there c.args.world.now (node_of s e) u c.args.self.now.backlogs (place_there s e brokers c.args.broker_ref u c.requires.broker_ref c.topic-broker.ensures) c.requires.backlogs)

pub note-requires : goal.note-requires
note-requires c = c.counts.ensures ∙ ap (λ (k : KnownBacklogs). k.counts) c.in_ok-know.ensures.known

pub returns-then-self-clause-has : goal.returns-then-self-clause-has
returns-then-self-clause-has c = always _ c.note_replicators.result (λ not. absurd (false≢true (sym not ∙ c.if-self.true)))

pub returns-then-self-clause-backlogs : goal.returns-then-self-clause-backlogs
returns-then-self-clause-backlogs c = always _ c.note_replicators.result c.requires.backlogs

pub returns-clause-has : goal.returns-clause-has
returns-clause-has c =
    let s = c.args.scenario.now.setup in let e = c.args.event.now in
    let there = number_there s e c.args.broker_ref _ c.requires.broker_ref c.number_of-number.ensures in
    always _ c.note.result (λ not. subst (λ (n : ℕ). n < length c.know.new.self) there c.in_ok-know.ensures.has)

pub returns-clause-backlogs : goal.returns-clause-backlogs
returns-clause-backlogs c =
    let s = c.args.scenario.now.setup in let e = c.args.event.now in let brokers = c.args.world.now.brokers in let u = c.topic-broker.result.now in
    let old = c.args.self.now.backlogs in let new = c.know.new.self in
    let there = number_there s e c.args.broker_ref _ c.requires.broker_ref c.number_of-number.ensures in
    always _ c.note.result
    (asked_known c.args.world.now (node_of s e) u old new (place_there s e brokers c.args.broker_ref u c.requires.broker_ref c.topic-broker.ensures)
    (subst (λ (n : ℕ). known_at new n ≡ record { is_known = true; counts = backlogs_of u.broker }) there c.in_ok-know.ensures.known)
    (subst (λ (n : ℕ). SameOthers n old new) there c.know.ensures.others) c.requires.backlogs)
