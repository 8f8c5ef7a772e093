use Rattle.std.proofs.Common.{◌≡◌, ◌+◌, ◌<◌, ap, arith, sym, ◌∙◌}
use Rattle.std.specs.Prelude.{◌&&◌}
use Rattle.step_lines.specs.Counting.{is_message_at, passes}
use Rattle.step_lines.proofs.OpenMessages.{one, walk_begins, walk_goes}
use Rattle.step_lines.proofs.acked.without_passed.Goals.{then-is_passed_message, else-is_passed_message}
use Rattle.step_lines.proofs.acked.without_passed.Goals as goal

pub loop-at-init : goal.loop-at-init
loop-at-init c =
    let first = c.next_open-at.ensures.least in
    record {
      lacks = first.outside;
      rest = c.requires ∙ walk_begins c.args.store.now.entries c.args.from c.args.cursor.now.indexes (c.args.index + 1) c.next_open-at.result first;
    }

pub loop-at-preserved : goal.loop-at-preserved
loop-at-preserved c =
    let es = c.args.store.now.entries in let set = c.args.cursor.now.indexes in let end = c.args.index + 1 in
    let first = c.next_open-at-in-loop-at.ensures.least in
    let lt : c.loop-at.at < end = omega (arith, c.loop-at-test.true) in
    let step = walk_goes es (passes c.args.from es) set end c.loop-at.at c.next_open-at-in-loop-at.result lt c.loop-at.invariant.lacks first in
    let before = c.loop-at.invariant.rest in
    record {
      lacks = first.outside;
      rest = elim c.if-is_passed_message.branch [
        | then-is_passed_message w ↦
            let one_ : one (is_message_at es c.loop-at.at && passes c.args.from es c.loop-at.at) ≡ 1 = ap one (sym c.is_passed_message.ensures ∙ w.if-is_passed_message.true) in
            omega (arith, step, before, one_, w.left-is, w.saturating_sub-left.ensures)
        | else-is_passed_message w ↦
            let none : one (is_message_at es c.loop-at.at && passes c.args.from es c.loop-at.at) ≡ 0 = ap one (sym c.is_passed_message.ensures ∙ w.if-is_passed_message.false) in
            omega (arith, step, before, none, w.left-is)
      ];
    }
