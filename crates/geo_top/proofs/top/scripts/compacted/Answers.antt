use Rattle.geo_top.proofs.Views.{shown_compacted}
use Rattle.geo_top.proofs.top.scripts.compacted.Goals as goal

pub returns-clause-done : goal.returns-clause-done
returns-clause-done c =
    shown_compacted c.args.horizon c.args.scenario.now c.in_ok-world.world c.in_ok-bytes.field-0 c.in_ok-world.ensures.done c.in_ok-bytes.ensures
