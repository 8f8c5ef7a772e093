use Rattle.pb_fields.proofs.Nested.{err_weaker}
use Rattle.marker_codec.specs.Kinds.{WrongPosition, WrongCluster, WrongInSnapshot, local, clusters}
use Rattle.marker_codec.proofs.kind.judge_in_snapshot.Goals as goal

pub returns-then-number-eq-LOCAL_MESSAGE_ID-clause-wrong : goal.returns-then-number-eq-LOCAL_MESSAGE_ID-clause-wrong
returns-then-number-eq-LOCAL_MESSAGE_ID-clause-wrong c =
    err_weaker (WrongPosition c.args.number c.args.content.now) (WrongInSnapshot c.args.number c.args.content.now) c.judge.result
    (λ e h. local c.if-number-eq-LOCAL_MESSAGE_ID.true h) c.judge.ensures.wrong

pub returns-clause-wrong : goal.returns-clause-wrong
returns-clause-wrong c =
    err_weaker (WrongCluster c.args.number c.args.content.now) (WrongInSnapshot c.args.number c.args.content.now) c.judge-2.result
    (λ e h. clusters c.if-number-eq-LOCAL_MESSAGE_ID.false h) c.judge-2.ensures.wrong
