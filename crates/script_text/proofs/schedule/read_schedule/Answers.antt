use Rattle.script_text.specs.Schedule.{schedule_of}
use Rattle.script_text.proofs.Answered.{accepted, ok_is, refused, rule_is}
use Rattle.script_text.proofs.schedule.read_schedule.Goals as goal

pub returns-clause-ok : goal.returns-clause-ok
returns-clause-ok c =
    ok_is c.read.result (schedule_of c.args.scenario.now.setup c.args.bytes.now) c.read.ensures.answers

pub returns-clause-rule : goal.returns-clause-rule
returns-clause-rule c =
    λ line rule e. rule_is c.read.result (schedule_of c.args.scenario.now.setup c.args.bytes.now) line rule c.read.ensures.answers e

pub returns-clause-accepts : goal.returns-clause-accepts
returns-clause-accepts c =
    λ steps e. accepted c.read.result (schedule_of c.args.scenario.now.setup c.args.bytes.now) steps c.read.ensures.answers e

pub returns-clause-refuses : goal.returns-clause-refuses
returns-clause-refuses c =
    λ line rule e. refused c.read.result (schedule_of c.args.scenario.now.setup c.args.bytes.now) line rule c.read.ensures.answers e
