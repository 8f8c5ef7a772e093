use Rattle.std.proofs.Common.{subst}
use Rattle.std.specs.Prelude.{OnOk}
use Rattle.broker_packets.specs.Answers.{AlsoAnswers, outs_of}
use Rattle.broker_packets.specs.declared.answers.Answer.{Answer}
use Rattle.broker_packets.proofs.answers.also_succeed.Goals as goal

pub returns : goal.returns
returns c =
    subst (λ (a : Answer). OnOk c.also_answer-answered.result (AlsoAnswers c.args.state.now.site.clusters (outs_of a) c.args.plan.now c.also_answer-answered.new.plan))
    c.in_ok-answer.ensures.answer c.also_answer-answered.ensures
