use Rattle.geo_base.specs.Run.{run}
use Rattle.geo_top.proofs.Stopping.{saved_large, saved_states, saved_withins}
use Rattle.geo_top.proofs.run.saved_run.Goals as goal

pub returns-in-Ok-clause-state : goal.returns-in-Ok-clause-state
returns-in-Ok-clause-state c =
    let n = c.args.scenario in
    let f = c.in-Ok.ensures.done in
    saved_states n c.saved-saved.result (c.saved-saved.ensures.saves (run n.setup n.steps) f.stands)

pub returns-in-Ok-clause-within : goal.returns-in-Ok-clause-within
returns-in-Ok-clause-within c =
    let n = c.args.scenario in
    let f = c.in-Ok.ensures.done in
    saved_withins n c.saved-saved.result f.unlimited (c.saved-saved.ensures.saves (run n.setup n.steps) f.stands)

pub returns-in-Ok-clause-large : goal.returns-in-Ok-clause-large
returns-in-Ok-clause-large c limit large =
    let n = c.args.scenario in
    let f = c.in-Ok.ensures.done in
    saved_large n limit c.saved-saved.result f.unlimited (c.saved-saved.ensures.saves (run n.setup n.steps) f.stands) large
