use Rattle.std.proofs.Common.{◌∙◌}
use Rattle.geo_base.specs.Run.{all_limits}
use Rattle.world.specs.Runs.{at_world}
use Rattle.trace_runs.proofs.ItemsTold.{on_ok}
use Rattle.trace_runs.proofs.Rounds.{run_told}
use Rattle.trace_runs.proofs.trace.Trace.run.Goals as goal

pub returns-clause-told : goal.returns-clause-told
returns-clause-told c = λ w reached stands.
    on_ok _ _ c.run_with.result (λ seen. seen ∙ run_told all_limits c.args.scenario.now.setup (at_world w) c.args.steps.now c.args.self.now.telling.text) (c.run_with.ensures.seen w reached stands)
