use Rattle.std.proofs.Common.{rules}
use Rattle.part_cases.proofs.tiering.is_kept.Goals as goal

pub are_kept-requires : goal.are_kept-requires
are_kept-requires g c κs within =
    let names = c.as_slice.result.now in let holds = c.in_ok-tiered.ensures.holds names (c.requires names) in
    (search rules, (search rules, (search rules, holds)))
