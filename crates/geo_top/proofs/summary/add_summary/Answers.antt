use Rattle.run_report.specs.Shown.{shown_world}
use Rattle.geo_top.proofs.Summed.{summary_whole}
use Rattle.geo_top.proofs.summary.add_summary.Goals as goal

pub returns : goal.returns
returns c =
    summary_whole c.args.number c.args.scenario.now.setup (shown_world c.args.world.now) c.add.new.lines c.add_stored.new.lines c.add-2.new.lines c.add_head.new.lines
    (rw (c.requires.none, c.in_ok-big_line.ensures) at c.in_ok-add.ensures.ok) c.in_ok-add_stored.ensures (rw c.in_ok-from_str.ensures.ok at c.in_ok-add-2.ensures.ok) c.in_ok-add_head.ensures.ok
