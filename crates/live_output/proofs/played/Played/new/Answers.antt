use Rattle.live_output.proofs.OneMore.{none_played}
use Rattle.live_output.proofs.played.Played.new.Goals as goal

pub returns-clause-at : goal.returns-clause-at
returns-clause-at c =
    none_played c.args.scenario.now c.in_ok-new.field-0 c.new-2.result c.in_ok-new.ensures.kept c.in_ok-new.ensures.at c.new-2.ensures
