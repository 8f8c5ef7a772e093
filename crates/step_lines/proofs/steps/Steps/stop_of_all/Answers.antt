use Rattle.std.proofs.Common.{List, length, subst, sym}
use Rattle.step_lines.specs.declared.stops.NotedTopic.{NotedTopic}
use Rattle.step_lines.specs.Stops.{AreNotedTopics, AreTopics}
use Rattle.step_lines.specs.Texts.{telling_of}
use Rattle.step_lines.proofs.AllBrokers.{are_topics, stop_told}
use Rattle.step_lines.proofs.Following.{begins_known}
use Rattle.world.specs.World.{kept_of}
use Rattle.step_lines.proofs.steps.Steps.stop_of_all.Goals as goal

pub add_topics-requires : goal.add_topics-requires
add_topics-requires c = record { brokers = c.stop.ensures.at.brokers; topics = subst (λ (ks : List NotedTopic). AreTopics c.args.scenario.now.setup ks) (sym c.as_slice.ensures.value) (are_topics c.args.scenario.now.setup c.args.world.now.brokers c.in_ok-noted.noted.items c.in_ok-noted.ensures) }

pub returns-clause-told : goal.returns-clause-told
returns-clause-told c = λ w reached stands.
    let s = c.args.scenario.now.setup in
    stop_told s w c.args.world.now c.stop.new.self (telling_of c.args.self.now.telling) (telling_of c.add_step.new.self) c.add_topics.new.lines c.requires.at c.stop.ensures.at stands
    (c.in_ok-stop.ensures.leads w reached stands).done.0 c.in_ok-add_step.ensures.told (c.in_ok-add_topics.ensures c.args.world.now.brokers (subst (λ (ks : List NotedTopic). AreNotedTopics s c.args.world.now.brokers (length s.topics) ks) (sym c.as_slice.ensures.value) c.in_ok-noted.ensures))

pub returns-clause-backlogs : goal.returns-clause-backlogs
returns-clause-backlogs c = begins_known c.forget_all.new.self (kept_of c.stop.new.self).brokers c.forget_all.ensures
