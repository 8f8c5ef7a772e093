use Rattle.marker_codec.proofs.kind.MarkerKindEmbedded.judge.Goals as goal

pub returns-in-Response-clause-right : goal.returns-in-Response-clause-right
returns-in-Response-clause-right c = rw c.in-Response.is c.judge-in-Response.ensures.right

pub returns-in-Response-clause-wrong : goal.returns-in-Response-clause-wrong
returns-in-Response-clause-wrong c = rw c.in-Response.is c.judge-in-Response.ensures.wrong

pub returns-in-Snapshot-clause-right : goal.returns-in-Snapshot-clause-right
returns-in-Snapshot-clause-right c = rw c.in-Snapshot.is c.judge_in_snapshot.ensures.right

pub returns-in-Snapshot-clause-wrong : goal.returns-in-Snapshot-clause-wrong
returns-in-Snapshot-clause-wrong c = rw c.in-Snapshot.is c.judge_in_snapshot.ensures.wrong

pub returns-in-Update-clause-right : goal.returns-in-Update-clause-right
returns-in-Update-clause-right c = rw c.in-Update.is c.judge-in-Update.ensures.right

pub returns-in-Update-clause-wrong : goal.returns-in-Update-clause-wrong
returns-in-Update-clause-wrong c = rw c.in-Update.is c.judge-in-Update.ensures.wrong
