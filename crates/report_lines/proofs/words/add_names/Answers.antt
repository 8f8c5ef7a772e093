use Rattle.std.proofs.Common.{◌<◌, ◌++◌, length, sym, ◌∙◌, arith}
use Rattle.geo_base.specs.declared.entry.Targets.TheVariants as targets
use Rattle.geo_base.specs.Client.{target_names}
use Rattle.geo_base.specs.Report.{commas}
use Rattle.report_lines.proofs.Names.{with_comma, with_name, without_name}
use Rattle.report_lines.proofs.Standing.{still_stands}
use Rattle.report_lines.proofs.words.add_names.Goals as goal
use Rattle.report_lines.proofs.words.add_names.Goals.{then-contains+in_ok-add_name, else-contains}

pub loop-number-preserved : goal.loop-number-preserved
loop-number-preserved c =
    let within : c.loop-number.number < length c.args.clusters.now = omega arith in
    let i = c.loop-number.number in
    let bits = c.args.bits in
    let xs = c.args.clusters.now in
    let d = c.index-clusters-number.result in
    let first = c.loop-number.is_first in
    let text = c.loop-number.lines in
    let whole = c.args.lines.now ++ commas (target_names 0 (targets.Only bits) xs) in
    elim c.if-contains.branch [
      | then-contains+in_ok-add_name w ↦
          record {
            so_far =
                rw (w.lines-is, w.is_first-is)
                (with_name bits i xs d first within w.as_str.result.now text w.add_name.new.lines whole
                (sym c.contains.ensures ∙ w.if-contains.true) (w.as_str.ensures.text ∙ c.index-clusters-number.is) w.in_ok-add_name.ensures.ok c.loop-number.invariant.so_far);
            begins = rw w.lines-is (still_stands c.args.lines.now text w.add_name.new.lines (with_comma first w.as_str.result.now) w.in_ok-add_name.ensures.ok c.loop-number.invariant.begins);
          }
      | else-contains w ↦
          record {
            so_far = rw (w.lines-is, w.is_first-is) (without_name bits i xs d first within text whole (sym c.contains.ensures ∙ w.if-contains.false) c.loop-number.invariant.so_far);
            begins = rw w.lines-is c.loop-number.invariant.begins;
          }
    ]
