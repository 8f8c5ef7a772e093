use Rattle.std.proofs.Common.{◌≡◌, ℕ, true, List, [], ap, length, subst, sym, ◌∙◌}
use Rattle.step_lines.specs.declared.replicators.NotedReplicator.{NotedReplicator}
use Rattle.step_lines.specs.Noted.{AreReplicators}
use Rattle.step_lines.specs.Backlogs.{KnownBacklogs, SameOthers, TellsBacklogs, backlogs_of, known_at}
use Rattle.step_lines.proofs.Following.{asked_known, number_there, tells_there}
use Rattle.kept_laws.specs.Events.{node_of}
use Rattle.step_lines.proofs.Resting.{as_noted, as_rests, as_replicators}
use Rattle.std.specs.Prelude.{slice_index_or}
use Rattle.step_lines.specs.Texts.{telling_of}
use Rattle.step_lines.proofs.Told.{always, clusters_there, place_there, told_here}
use Rattle.world.proofs.Places.{cluster_below, topic_below}
use Rattle.step_lines.proofs.steps.Steps.tell_event.Goals as goal

pub topic-broker-requires : goal.topic-broker-requires
topic-broker-requires c =
    let s = c.args.scenario.now.setup in let e = c.args.event.now in
    record {
      brokers = c.requires.at.brokers;
      topic = topic_below s c.args.world.now e c.args.broker_ref.topic c.requires.at c.requires.broker c.requires.scripted c.requires.broker_ref.topic;
      cluster = cluster_below s e c.args.broker_ref.cluster c.requires.broker c.requires.scripted c.requires.broker_ref.cluster;
    }

pub returns-then-self-clause-told : goal.returns-then-self-clause-told
returns-then-self-clause-told c = λ b noted rested.
    let s = c.args.scenario.now.setup in let e = c.args.event.now in let brokers = c.args.world.now.brokers in let u = c.topic-broker.result.now in
    let r = c.args.self.now.rests in let k = c.args.self.now.noted in
    told_here r c.args.indent s c.args.self.now.telling.names c.args.world.now e b u k _ _ (telling_of c.args.self.now.telling) (telling_of c.begin.new.self) c.add_replicator_changes.new.lines c.add_replicator_changes.result
    c.requires.knows.names c.requires.at c.requires.broker c.requires.scripted (place_there s e brokers c.args.broker_ref u c.requires.broker_ref c.topic-broker.ensures)
    c.events.ensures.events
    (c.topic_name-topic.ensures ∙ (ap (λ (ns : List (List ℕ)). slice_index_or ns c.args.broker_ref.topic []) c.topics.ensures.names ∙ ap (λ (t : ℕ). slice_index_or s.topics t []) c.requires.broker_ref.topic))
    c.in_ok-begin.ensures.told
    (λ seen may.
    c.add_replicator_changes.ensures b
    (subst (λ (ks : List NotedReplicator). AreReplicators (length u.site.clusters) b ks) (sym c.as_slice-noted.ensures.value) (as_replicators r (length u.site.clusters) b k c.if-self.true seen))
    (as_rests r b u.broker c.if-self.true may)) noted rested

pub add_replicator_changes-requires : goal.add_replicator_changes-requires
add_replicator_changes-requires c =
    let s = c.args.scenario.now.setup in let e = c.args.event.now in let brokers = c.args.world.now.brokers in let u = c.topic-broker.result.now in
    ap (λ (ks : List NotedReplicator). length ks) c.as_slice-noted.ensures.value
    ∙ clusters_there s c.args.world.now e u _ c.requires.at c.requires.broker c.requires.scripted (place_there s e brokers c.args.broker_ref u c.requires.broker_ref c.topic-broker.ensures) c.requires.noted

pub returns-clause-told : goal.returns-clause-told
returns-clause-told c = λ b noted rested.
    let s = c.args.scenario.now.setup in let e = c.args.event.now in let brokers = c.args.world.now.brokers in let u = c.topic-broker.result.now in
    let r = c.args.self.now.rests in
    told_here r c.args.indent s c.args.self.now.telling.names c.args.world.now e b u c.args.self.now.noted _ _ (telling_of c.args.self.now.telling) (telling_of c.begin.new.self) c.add_broker_changes.new.lines c.add_broker_changes.result
    c.requires.knows.names c.requires.at c.requires.broker c.requires.scripted (place_there s e brokers c.args.broker_ref u c.requires.broker_ref c.topic-broker.ensures)
    c.events.ensures.events
    (c.topic_name-topic.ensures ∙ (ap (λ (ns : List (List ℕ)). slice_index_or ns c.args.broker_ref.topic []) c.topics.ensures.names ∙ ap (λ (t : ℕ). slice_index_or s.topics t []) c.requires.broker_ref.topic))
    c.in_ok-begin.ensures.told
    (λ seen may. c.add_broker_changes.ensures b (as_noted r (length u.site.clusters) b c.args.self.now.noted c.if-self.false seen)) noted rested

pub add_broker_changes-requires : goal.add_broker_changes-requires
add_broker_changes-requires c =
    let s = c.args.scenario.now.setup in let e = c.args.event.now in let brokers = c.args.world.now.brokers in let u = c.topic-broker.result.now in
    record {
      replicators = clusters_there s c.args.world.now e u _ c.requires.at c.requires.broker c.requires.scripted (place_there s e brokers c.args.broker_ref u c.requires.broker_ref c.topic-broker.ensures) c.requires.noted;
      backlogs = c.counts-backlogs.ensures ∙ ap (λ (k : KnownBacklogs). k.counts) c.in_ok-know.ensures.known;
    }

pub number_of-number-requires : goal.number_of-number-requires
number_of-number-requires c =
    let s = c.args.scenario.now.setup in let e = c.args.event.now in
    record {
      topic = topic_below s c.args.world.now e c.args.broker_ref.topic c.requires.at c.requires.broker c.requires.scripted c.requires.broker_ref.topic;
      cluster = cluster_below s e c.args.broker_ref.cluster c.requires.broker c.requires.scripted c.requires.broker_ref.cluster;
    }

pub know-requires : goal.know-requires
know-requires c =
    let s = c.args.scenario.now.setup in let e = c.args.event.now in let brokers = c.args.world.now.brokers in let u = c.topic-broker.result.now in
    subst (λ (n : ℕ). TellsBacklogs (known_at c.args.self.now.backlogs n) u.broker) (sym (number_there s e c.args.broker_ref _ c.requires.broker_ref c.number_of-number.ensures))
    (tells_there c.args.world.now (node_of s e) u c.args.self.now.backlogs (place_there s e brokers c.args.broker_ref u c.requires.broker_ref c.topic-broker.ensures) c.requires.backlogs)

pub returns-then-self-clause-backlogs : goal.returns-then-self-clause-backlogs
returns-then-self-clause-backlogs c = always _ c.add_replicator_changes.result c.requires.backlogs

pub returns-clause-backlogs : goal.returns-clause-backlogs
returns-clause-backlogs c =
    let s = c.args.scenario.now.setup in let e = c.args.event.now in let brokers = c.args.world.now.brokers in let u = c.topic-broker.result.now in
    let old = c.args.self.now.backlogs in let new = c.know.new.self in
    let there = number_there s e c.args.broker_ref _ c.requires.broker_ref c.number_of-number.ensures in
    always _ c.add_broker_changes.result
    (asked_known c.args.world.now (node_of s e) u old new (place_there s e brokers c.args.broker_ref u c.requires.broker_ref c.topic-broker.ensures)
    (subst (λ (n : ℕ). known_at new n ≡ record { is_known = true; counts = backlogs_of u.broker }) there c.in_ok-know.ensures.known)
    (subst (λ (n : ℕ). SameOthers n old new) there c.know.ensures.others) c.requires.backlogs)
