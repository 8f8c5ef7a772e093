use Rattle.std.proofs.Common.{◌∙◌}
use Rattle.merge_history.proofs.Allowed.{each_is, histories_few}
use Rattle.merge_history.proofs.events.all_events.Goals as goal

pub merged_steps-requires : goal.merged_steps-requires
merged_steps-requires c = histories_few c.args.logs.now c.as_slice.result.now 4294967296 (c.as_slice.ensures.value ∙ c.in_ok-histories.ensures) c.requires

pub returns-clause-each : goal.returns-clause-each
returns-clause-each c = each_is c.args.scenario.now.setup c.in_ok-merged.merged c.allowed_steps.result c.allowed_steps.ensures
