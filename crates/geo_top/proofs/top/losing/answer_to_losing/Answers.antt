use Rattle.std.proofs.Common.{rules}
use Rattle.geo_top.proofs.Losing.{told_no_script, told_script}
use Rattle.geo_top.proofs.top.losing.answer_to_losing.Goals as goal

pub returns-in-Ok-clause-answer : goal.returns-in-Ok-clause-answer
returns-in-Ok-clause-answer c =
    told_script c.args.cluster.now c.args.bytes c.args.with_names c.in-Ok.scenario c.losing_scenario-answer.result (search rules)
    (c.losing_scenario-answer.ensures c.args.bytes (cc (c.as_slice.ensures, c.line_behind-line.ensures.number)))

pub returns-in-Err-Rule-clause-answer : goal.returns-in-Err-Rule-clause-answer
returns-in-Err-Rule-clause-answer c =
    told_no_script c.args.cluster.now c.args.bytes c.args.with_names c.in-Err-Rule.line c.in-Err-Rule.rule c.refusal.result (search rules) c.refusal.ensures
