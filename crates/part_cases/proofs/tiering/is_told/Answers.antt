use Rattle.std.proofs.Common.{rules}
use Rattle.part_cases.proofs.tiering.is_told.Goals as goal

pub is_story-requires : goal.is_story-requires
is_story-requires g c κs within =
    let names = c.as_slice.result.now in let holds = c.in_ok-tiered.ensures.holds names (c.requires names) in
    (search rules, (search rules, (search rules, holds)))
