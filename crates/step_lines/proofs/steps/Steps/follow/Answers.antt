use Rattle.std.proofs.Common.{ℕ, ◌<◌, length, subst, sym}
use Rattle.step_lines.specs.Backlogs.{TellsBacklogs, known_at}
use Rattle.step_lines.proofs.Following.{follows_there, number_there, rests_there, tells_there}
use Rattle.step_lines.proofs.Told.{place_there}
use Rattle.world.proofs.Places.{cluster_below, topic_below}
use Rattle.world.specs.World.{node_at}
use Rattle.kept_laws.specs.Events.{node_of}
use Rattle.step_lines.proofs.steps.Steps.follow.Goals as goal

pub topic-broker-requires : goal.topic-broker-requires
topic-broker-requires c =
    let s = c.args.scenario.now.setup in let e = c.args.event.now in
    record {
      brokers = c.requires.at.brokers;
      topic = topic_below s c.args.world.now e c.args.broker_ref.topic c.requires.at c.requires.broker c.requires.scripted c.requires.broker_ref.topic;
      cluster = cluster_below s e c.args.broker_ref.cluster c.requires.broker c.requires.scripted c.requires.broker_ref.cluster;
    }

pub number_of-number-requires : goal.number_of-number-requires
number_of-number-requires c =
    let s = c.args.scenario.now.setup in let e = c.args.event.now in
    record {
      topic = topic_below s c.args.world.now e c.args.broker_ref.topic c.requires.at c.requires.broker c.requires.scripted c.requires.broker_ref.topic;
      cluster = cluster_below s e c.args.broker_ref.cluster c.requires.broker c.requires.scripted c.requires.broker_ref.cluster;
    }

pub follow-requires : goal.follow-requires
follow-requires c =
    let s = c.args.scenario.now.setup in let e = c.args.event.now in let brokers = c.args.world.now.brokers in let u = c.topic-broker.result.now in let ks = c.args.self.now.backlogs in
    let there = number_there s e c.args.broker_ref _ c.requires.broker_ref c.number_of-number.ensures in
    record {
      has = subst (λ (n : ℕ). n < length ks) (sym there) (c.requires.has c.if-self.false);
      known =
          subst (λ (n : ℕ). TellsBacklogs (known_at ks n) u.broker) (sym there)
          (tells_there c.args.world.now (node_of s e) u ks (place_there s e brokers c.args.broker_ref u c.requires.broker_ref c.topic-broker.ensures) c.requires.backlogs);
    }

pub returns-then-self-clause-followed : goal.returns-then-self-clause-followed
returns-then-self-clause-followed c = λ per.
    let n = node_of c.args.scenario.now.setup c.args.event.now in
    rests_there c.args.self.now.rests n per (node_at c.args.world.now.brokers n).broker c.args.self.now.plan c.args.self.now.backlogs c.if-self.true

pub returns-clause-followed : goal.returns-clause-followed
returns-clause-followed c = λ per.
    let s = c.args.scenario.now.setup in let e = c.args.event.now in let brokers = c.args.world.now.brokers in let u = c.topic-broker.result.now in
    follows_there s e brokers u c.args.self.now.rests c.number_of-number.result per c.args.self.now.plan c.args.self.now.backlogs c.follow.new.self c.follow.result c.if-self.false
    (number_there s e c.args.broker_ref _ c.requires.broker_ref c.number_of-number.ensures) (place_there s e brokers c.args.broker_ref u c.requires.broker_ref c.topic-broker.ensures)
    (c.follow.ensures.followed per) c.follow.ensures.others
