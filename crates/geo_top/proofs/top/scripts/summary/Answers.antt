use Rattle.geo_top.proofs.Summed.{shown_summary}
use Rattle.geo_top.proofs.top.scripts.summary.Goals as goal

pub returns : goal.returns
returns c =
    shown_summary c.args.number c.args.scenario.now c.args.world.now c.append_summary.new.out c.requires.number c.requires.finished
    (rw c.new-bytes.ensures at c.in_ok-append_summary.ensures.ok)
