use Rattle.std.proofs.Common.{◌∙◌, List, ap, take, arith, subst, sym}
use Rattle.std.specs.Prelude.{length}
use Rattle.std.proofs.lemmas.List.{take_all}
use Rattle.observation.specs.declared.said.Said.{Said}
use Rattle.observe.specs.Dealt.{TellsTopic}
use Rattle.observe.proofs.Each.{item_at, take_more_at}
use Rattle.observe.proofs.topic_dealt.TopicDealt.of.Goals as goal

pub take-requires-clause-said : goal.take-requires-clause-said
take-requires-clause-said c =
    let i = c.loop-said.said-index in
    c.requires.of.said i c.said-item.result (item_at _ _ i c.said-item.result c.said-lines.ensures c.loop-said-test.true c.said-item.is)

pub loop-said-preserved : goal.loop-said-preserved
loop-said-preserved c =
    let i = c.loop-said.said-index in let ls = c.args.observed.now.said in
    let at = item_at ls _ i c.said-item.result c.said-lines.ensures c.loop-said-test.true c.said-item.is in
    record {
      clusters = c.take.ensures.clusters ∙ c.loop-said.invariant.clusters;
      told = subst (λ (ms : List Said). TellsTopic c.args.scenario.now.setup c.args.observed.now c.args.topic ms c.take.new.self) (sym (take_more_at ls i c.said-item.result at)) (c.in_ok-take.ensures.told (take i ls) c.loop-said.invariant.told);
    }

pub returns-clause-told : goal.returns-clause-told
returns-clause-told c =
    let i = c.loop-said.said-index in let ls = c.args.observed.now.said in let size = ap length c.said-lines.ensures in
    subst (λ (ms : List Said). TellsTopic c.args.scenario.now.setup c.args.observed.now c.args.topic ms c.loop-said.dealt) (take_all i ls (omega (arith, c.loop-said-test.false, size))) c.loop-said.invariant.told
