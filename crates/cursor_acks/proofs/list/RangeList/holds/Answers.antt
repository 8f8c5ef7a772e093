use Rattle.std.proofs.Common.{◌∙◌, ap, sym, arith}
use Rattle.std.specs.Prelude.{nat_le}
use Rattle.cursor_acks.specs.declared.range.IndexRange.{IndexRange}
use Rattle.cursor_acks.specs.Blocks.{flat}
use Rattle.cursor_acks.proofs.RangeIndexes.{held, place_out}
use Rattle.cursor_acks.proofs.list.RangeList.holds.Goals as goal

pub returns-in-Some : goal.returns-in-Some
returns-in-Some c =
    let rs = c.args.self.now.list in
    let f = flat c.args.self.now.blocks c.args.at in
    let r = c.in-Some.range in
    let here = c.in-Some.ensures.some in
    ap (λ (x : IndexRange). nat_le x.first c.args.index) here.1.1 ∙ held rs c.args.index f r c.requires.kept c.requires.range_index here.1.0

pub returns-in-None : goal.returns-in-None
returns-in-None c =
    sym (place_out c.args.self.now.list c.args.index (flat c.args.self.now.blocks c.args.at) c.requires.kept c.requires.range_index (λ d n. absurd (omega (arith, n, c.in-None.ensures.none))))
