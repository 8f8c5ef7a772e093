use Rattle.std.proofs.Common.{◌≡◌, length, take}
use Rattle.observe.specs.Dealt.{TellsTopic}
use Rattle.observe.proofs.topic_dealt.TopicDealt.of.Given as goal

abbrev pub invariant-loop-said : goal.invariant-loop-said
invariant-loop-said l = record {
  clusters : l.dealt.clusters ≡ length l.scenario.setup.clusters;
  told : TellsTopic l.scenario.setup l.observed l.topic (take l.said-index l.observed.said) l.dealt;
}
