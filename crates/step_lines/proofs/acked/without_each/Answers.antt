use Rattle.std.proofs.Common.{◌≡◌, ℕ, Some, ap, not, arith, sym, ◌∙◌}
use Rattle.std.specs.Prelude.{get_or, slice_get}
use Rattle.std.proofs.lemmas.Option.{slice_get-get_or}
use Rattle.step_lines.proofs.OpenMessages.{each_closed, each_open, kept_here, kept_more, kept_none}
use Rattle.step_lines.proofs.acked.without_each.Goals.{then-is_open, else-is_open, then-may_repeat+in_ok-add, else-may_repeat}
use Rattle.step_lines.proofs.acked.without_each.Goals as goal

pub loop-index-preserved : goal.loop-index-preserved
loop-index-preserved c =
    let es = c.args.store.now.entries in let set = c.args.cursor.now.indexes in let is = c.args.indexes.now in let k : ℕ = c.loop-index.index-index in
    let kept = not c.ascend-may_repeat.result in let acked = c.loop-index.acked.indexes in
    let i : ℕ = get_or is k 0 in let at : slice_get is k ≡ Some i = slice_get-get_or is k 0 c.loop-index-test.true in
    let held = kept_here kept is k i acked c.loop-index.invariant.ascend at c.loop-index.invariant.acked in
    record {
      left = elim c.if-is_open.branch [
        | then-is_open w ↦
            omega (arith, w.left-is, w.saturating_sub-left.ensures, each_open es set is k i acked c.loop-index.left at held c.loop-index.invariant.left (sym c.is_open.ensures ∙ w.if-is_open.true))
        | else-is_open w ↦
            omega (arith, w.left-is, each_closed es set is k i acked c.loop-index.left at held c.loop-index.invariant.left (sym c.is_open.ensures ∙ w.if-is_open.false))
      ];
      acked = elim c.if-may_repeat.branch [
        | then-may_repeat+in_ok-add w ↦ rw w.acked-is (kept_more kept is k i acked _ (ap not w.if-may_repeat.true) at c.loop-index.invariant.acked w.in_ok-add.ensures)
        | else-may_repeat w ↦ rw w.acked-is (kept_none kept is k acked (ap not w.if-may_repeat.false) c.loop-index.invariant.acked)
      ];
      ascend = c.loop-index.invariant.ascend;
    }
