use Rattle.std.proofs.Common.{ap, sym, ◌∙◌, arith}
use Rattle.std.specs.Prelude.{nat_lt}
use Rattle.cursor_acks.specs.declared.range.IndexRange.{IndexRange}
use Rattle.cursor_acks.specs.Blocks.{flat}
use Rattle.cursor_acks.proofs.AddedRange.{free_before, free_there}
use Rattle.cursor_acks.proofs.cursor.Cursor.are_free.Goals as goal

pub returns-in-Some : goal.returns-in-Some
returns-in-Some c =
    let rs = c.self.inside.ranges.list in
    let f = flat c.self.inside.ranges.blocks c.place_of.result in
    let here = c.in-Some.ensures.some in
    rw (← c.self.view_is)
    (ap (λ (x : IndexRange). nat_lt c.args.last x.first) here.1.1 ∙ free_before rs c.args.first c.args.last f c.in-Some.range c.self.invariant c.place_of.ensures.range_index c.requires here.1.0)

pub returns-in-None : goal.returns-in-None
returns-in-None c =
    let rs = c.self.inside.ranges.list in
    let f = flat c.self.inside.ranges.blocks c.place_of.result in
    rw (← c.self.view_is)
    (sym (free_there rs c.args.first c.args.last f c.self.invariant c.place_of.ensures.range_index (λ d n. absurd (omega (arith, n, c.in-None.ensures.none))) c.requires))
