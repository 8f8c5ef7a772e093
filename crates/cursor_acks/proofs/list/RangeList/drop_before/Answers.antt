use Rattle.std.proofs.Common.{◌≡◌, ◌+◌, ◌-◌, ◌<◌, List, [], ◌∷◌, ◌++◌, drop, get_or, length, ap, arith}
use Rattle.cursor_acks.specs.declared.range.IndexRange.{IndexRange}
use Rattle.std.specs.Prelude.{vec_capacity}
use Rattle.cursor_acks.specs.Blocks.{IsRange}
use Rattle.cursor_acks.proofs.Parts.{at_end, dropped_end, dropped_excess, dropped_first, get_end, get_first, spare_kept}
use Rattle.cursor_acks.proofs.list.RangeList.drop_before.Goals as goal

pub returns-then-at-len-clause-list : goal.returns-then-at-len-clause-list
returns-then-at-len-clause-list c =
    let xs : List (List IndexRange) = c.self.inside.before.list in
    let l : List IndexRange = c.self.inside.last.items in
    let here : IsRange (xs ++ l ∷ []) c.args.at = rw (← c.self.view_is) at c.requires in
    let lt : c.args.at.block < length xs = omega (arith, c.if-at-len.true, c.len.ensures.len) in
    let w : c.args.at.offset < length (get_or xs c.args.at.block []) = omega (arith, here.offset, ap length (get_first xs l c.args.at.block lt)) in
    rw (← c.self.view_is, c.drop_before.ensures.list) (dropped_first xs l c.args.at.block c.args.at.offset lt (omega (arith, w)))

pub returns-then-at-len-clause-spare : goal.returns-then-at-len-clause-spare
returns-then-at-len-clause-spare c =
    let xs : List (List IndexRange) = c.self.inside.before.list in
    let l : List IndexRange = c.self.inside.last.items in
    let here : IsRange (xs ++ l ∷ []) c.args.at = rw (← c.self.view_is) at c.requires in
    let lt : c.args.at.block < length xs = omega (arith, c.if-at-len.true, c.len.ensures.len) in
    rw (← c.self.view_is, c.drop_before.ensures.list)
    (spare_kept xs (drop c.args.at.offset (get_or xs c.args.at.block []) ∷ drop (c.args.at.block + 1) xs) (length c.self.inside.free.items) (vec_capacity c.self.inside.last) (length l) (dropped_excess xs c.args.at.block c.args.at.offset lt))

pub returns-else-at-len-clause-list : goal.returns-else-at-len-clause-list
returns-else-at-len-clause-list c =
    let xs : List (List IndexRange) = c.self.inside.before.list in
    let l : List IndexRange = c.self.inside.last.items in
    let here : IsRange (xs ++ l ∷ []) c.args.at = rw (← c.self.view_is) at c.requires in
    let e : c.args.at.block ≡ length xs = at_end xs l c.args.at.block here.block (omega (arith, c.if-at-len.false, c.len.ensures.len)) in
    let w : c.args.at.offset < length l = omega (arith, here.offset, ap length (get_end xs l c.args.at.block e)) in
    rw (← c.self.view_is, c.drop_blocks.ensures.list, c.drop_first.ensures.items) (dropped_end xs l c.args.at.block c.args.at.offset e (omega (arith, w)))
