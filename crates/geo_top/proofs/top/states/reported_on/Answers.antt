use Rattle.state_file.specs.State.{state_of}
use Rattle.geo_top.proofs.Saving.{resumed_bytes}
use Rattle.geo_top.proofs.top.states.reported_on.Goals as goal

pub returns-clause-done : goal.returns-clause-done
returns-clause-done c =
    let r = c.in_ok-resumed.resumed in
    resumed_bytes (state_of c.args.saved) r.scenario c.args.steps.now r.world c.in_ok-bytes.field-0 c.in_ok-resumed.ensures.done c.in_ok-resumed.ensures.scenario c.in_ok-bytes.ensures
