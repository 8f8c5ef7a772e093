use Rattle.std.proofs.Common.{List, subst, sym}
use Rattle.std.specs.Prelude.{All}
use Rattle.merge_history.specs.declared.turn.Turn.{Turn}
use Rattle.merge_history.specs.Turns.{IsIn}
use Rattle.merge_history.proofs.Merging.{turns_in}
use Rattle.merge_history.proofs.steps.merged_steps.Goals as goal

pub steps_at-requires : goal.steps_at-requires
steps_at-requires c =
    let kept = c.args.histories.now in
    subst (λ (ts : List Turn). All (IsIn kept) ts) (sym c.as_slice.ensures.value) (turns_in kept c.in_ok-turns.turns.items c.in_ok-turns.ensures.moved)
