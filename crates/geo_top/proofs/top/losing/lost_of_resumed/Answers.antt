use Rattle.state_file.specs.State.{state_of}
use Rattle.geo_top.proofs.Losing.{lost_resumed}
use Rattle.geo_top.proofs.top.losing.lost_of_resumed.Goals as goal

pub lost_lines-bytes-requires-clause-cluster : goal.lost_lines-bytes-requires-clause-cluster
lost_lines-bytes-requires-clause-cluster c = rw c.in_ok-resumed.ensures.scenario (c.requires.cluster)

pub returns-clause-done : goal.returns-clause-done
returns-clause-done c =
    let r = c.in_ok-resumed.resumed in
    lost_resumed (state_of c.args.saved) r.scenario c.args.steps.now r.world c.args.gone.with_names c.args.gone.cluster c.in_ok-bytes.field-0 c.in_ok-resumed.ensures.done
    c.in_ok-resumed.ensures.scenario c.in_ok-bytes.ensures
