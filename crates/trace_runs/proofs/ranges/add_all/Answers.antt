use Rattle.std.proofs.Common.{◌≡◌, ◌∷◌, List, ap, sym, ◌∙◌}
use Rattle.std.proofs.Math.Seq.{take-append_seam}
use Rattle.cursor_acks.specs.declared.range.IndexRange.{IndexRange}
use Rattle.report_lines.proofs.Standing.{still_stands, stands_on, on_err}
use Rattle.trace_runs.proofs.RangeTexts.{first_shown, more_shown}
use Rattle.trace_runs.proofs.ranges.add_all.Goals as goal

pub loop-range-init : goal.loop-range-init
loop-range-init c =
    let these : c.args.ranges.now.list ≡ c.in-Some.first ∷ c.into_iter-range-iterator.result =
    sym c.iter-rest.ensures ∙ (c.in-Some.ensures.steps ∙ ap (λ (rs : List IndexRange). c.in-Some.first ∷ rs) (sym c.into_iter-range-iterator.ensures.into_iter_gives)) in
    record {
      so_far = first_shown c.args.ranges.now.list c.in-Some.first c.into_iter-range-iterator.result c.args.lines.now c.add_range.new.lines these c.in_ok-add_range.ensures.ok;
      begins = rw c.in_ok-add_range.ensures.ok (take-append_seam c.args.lines.now _);
    }

pub loop-range-preserved : goal.loop-range-preserved
loop-range-preserved c =
    record {
      so_far =
          more_shown c.loop-range.range-iterator c.next-in-loop-range.new.self c.in-Some-range.range c.loop-range.lines c.append-in-loop-range.new.self c.add_range-in-loop-range.new.lines _
          c.in-Some-range.ensures.steps c.in_ok-append.ensures.ok c.in_ok-add_range-2.ensures.ok c.loop-range.invariant.so_far;
      begins =
          still_stands c.args.lines.now c.append-in-loop-range.new.self c.add_range-in-loop-range.new.lines _ c.in_ok-add_range-2.ensures.ok
          (still_stands c.args.lines.now c.loop-range.lines c.append-in-loop-range.new.self _ c.in_ok-append.ensures.ok c.loop-range.invariant.begins);
    }

pub returns-in_err-add_range-2-clause-err : goal.returns-in_err-add_range-2-clause-err
returns-in_err-add_range-2-clause-err c =
    let old = c.args.lines.now in
    let before = still_stands old c.loop-range.lines c.append-in-loop-range.new.self _ c.in_ok-append.ensures.ok c.loop-range.invariant.begins in
    on_err c.from_residual-in_err-add_range-2.result (stands_on old c.append-in-loop-range.new.self c.add_range-in-loop-range.new.lines before c.in_err-add_range-2.ensures.err)
