use Rattle.std.proofs.Common.{sym, ◌∙◌}
use Rattle.std.proofs.lemmas.Bool.{false≢true}
use Rattle.broker_packets.proofs.UsualPublishes.{agreed, sound}
use Rattle.broker_packets.proofs.usual_publishes.is_sound_for.Goals as goal

pub returns-then-agrees-clause-only : goal.returns-then-agrees-clause-only
returns-then-agrees-clause-only c = λ is. sound c.args.state.now.site c.args.came c.args.name.now (sym c.agrees.ensures ∙ c.if-agrees.true) (c.is_small.ensures.small is)

pub returns-then-agrees-clause-all : goal.returns-then-agrees-clause-all
returns-then-agrees-clause-all c = λ is. λ small. c.is_small.ensures.is ∙ small

pub returns-else-agrees-clause-all : goal.returns-else-agrees-clause-all
returns-else-agrees-clause-all c = λ is. absurd (false≢true (sym (sym c.agrees.ensures ∙ c.if-agrees.false) ∙ agreed c.args.state.now.site c.args.came c.args.name.now is))
