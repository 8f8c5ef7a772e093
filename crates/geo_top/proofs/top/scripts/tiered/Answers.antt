use Rattle.geo_top.proofs.Tiers.{finished_tellable, shown_tiered}
use Rattle.geo_top.proofs.top.scripts.tiered.Goals as goal

pub tiered_topics-bytes-requires-clause-tellable : goal.tiered_topics-bytes-requires-clause-tellable
tiered_topics-bytes-requires-clause-tellable c = finished_tellable c.args.scenario.now c.in_ok-world.world c.requires c.in_ok-world.ensures.done

pub returns-clause-done : goal.returns-clause-done
returns-clause-done c =
    shown_tiered c.args.keep c.args.scenario.now c.in_ok-world.world c.in_ok-bytes.field-0 c.in_ok-world.ensures.done c.in_ok-bytes.ensures
