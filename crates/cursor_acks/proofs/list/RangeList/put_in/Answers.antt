use Rattle.std.proofs.Common.{◌≡◌, ◌+◌, ◌-◌, ◌<◌, ◌≤◌, List, [], ◌∷◌, ◌++◌, get_or, length, ap, arith}
use Rattle.cursor_acks.specs.declared.range.IndexRange.{IndexRange}
use Rattle.std.specs.Prelude.{vec_capacity}
use Rattle.cursor_acks.specs.Blocks.{IsSlot}
use Rattle.cursor_acks.proofs.Parts.{at_end, edit_end, edit_first, get_end, get_first, insert_excess, spare_less}
use Rattle.cursor_acks.proofs.list.RangeList.put_in.Goals as goal

pub returns-then-at-len-clause-list : goal.returns-then-at-len-clause-list
returns-then-at-len-clause-list c =
    let xs : List (List IndexRange) = c.self.inside.before.list in
    let l : List IndexRange = c.self.inside.last.items in
    let here : IsSlot (xs ++ l ∷ []) c.args.at = rw (← c.self.view_is) at c.requires.slot in
    let lt : c.args.at.block < length xs = omega (arith, c.if-at-len.true, c.len.ensures.len) in
    let w : c.args.at.offset ≤ length (get_or xs c.args.at.block []) = omega (arith, here.offset, ap length (get_first xs l c.args.at.block lt)) in
    rw (← c.self.view_is, c.insert.ensures.list) (edit_first xs l c.args.at.block c.args.at.offset c.args.at.offset (c.args.range ∷ []) lt w w)

pub returns-then-at-len-clause-spare : goal.returns-then-at-len-clause-spare
returns-then-at-len-clause-spare c =
    let xs : List (List IndexRange) = c.self.inside.before.list in
    let l : List IndexRange = c.self.inside.last.items in
    let here : IsSlot (xs ++ l ∷ []) c.args.at = rw (← c.self.view_is) at c.requires.slot in
    let lt : c.args.at.block < length xs = omega (arith, c.if-at-len.true, c.len.ensures.len) in
    let w : c.args.at.offset ≤ length (get_or xs c.args.at.block []) = omega (arith, here.offset, ap length (get_first xs l c.args.at.block lt)) in
    rw (← c.self.view_is, c.insert.ensures.list)
    (spare_less xs _ (length c.self.inside.free.items) (vec_capacity c.self.inside.last) (length l) 1 (insert_excess xs c.args.at.block c.args.at.offset c.args.range lt w))

pub returns-in-Ok-clause-list : goal.returns-in-Ok-clause-list
returns-in-Ok-clause-list c =
    let xs : List (List IndexRange) = c.self.inside.before.list in
    let l : List IndexRange = c.self.inside.last.items in
    let here : IsSlot (xs ++ l ∷ []) c.args.at = rw (← c.self.view_is) at c.requires.slot in
    let e : c.args.at.block ≡ length xs = at_end xs l c.args.at.block here.block (omega (arith, c.if-at-len.false, c.len.ensures.len)) in
    let w : c.args.at.offset ≤ length l = omega (arith, here.offset, ap length (get_end xs l c.args.at.block e)) in
    rw (← c.self.view_is, c.in-Ok.ensures.items) (edit_end xs l c.args.at.block c.args.at.offset c.args.at.offset (c.args.range ∷ []) e w w)
