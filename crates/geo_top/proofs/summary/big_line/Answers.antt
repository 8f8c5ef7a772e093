use Rattle.std.proofs.Common.{◌∙◌}
use Rattle.geo_top.proofs.Summed.{big_whole}
use Rattle.geo_top.proofs.summary.big_line.Goals as goal

pub returns : goal.returns
returns c = c.in_ok-format.ensures.ok ∙ big_whole c.args.number
