use Rattle.std.proofs.Common.{◌≡◌, ◌+◌, ◌-◌, ◌<◌, ◌∙◌, List, [], ◌∷◌, ◌++◌, drop, get_or, length, suc, take, ap, arith}
use Rattle.cursor_acks.specs.declared.range.IndexRange.{IndexRange}
use Rattle.cursor_acks.specs.Blocks.{IsRange, joined}
use Rattle.cursor_acks.proofs.Parts.{at_end, get_end, get_first, remove_end, remove_first}
use Rattle.cursor_acks.proofs.list.RangeList.remove.Goals as goal

pub returns-then-at-len-clause-list : goal.returns-then-at-len-clause-list
returns-then-at-len-clause-list c =
    let xs : List (List IndexRange) = c.self.inside.before.list in
    let l : List IndexRange = c.self.inside.last.items in
    let here : IsRange (xs ++ l ∷ []) c.args.at = rw (← c.self.view_is) at c.requires in
    let lt : c.args.at.block < length xs = omega (arith, c.if-at-len.true, c.len.ensures.len) in
    let w : c.args.at.offset < length (get_or xs c.args.at.block []) = omega (arith, here.offset, ap length (get_first xs l c.args.at.block lt)) in
    rw (← c.self.view_is) (remove_first xs c.remove.new.self.list l c.args.at.block c.args.at.offset lt w c.remove.ensures.ranges)

pub returns-else-at-len-clause-list : goal.returns-else-at-len-clause-list
returns-else-at-len-clause-list c =
    let xs : List (List IndexRange) = c.self.inside.before.list in
    let l : List IndexRange = c.self.inside.last.items in
    let here : IsRange (xs ++ l ∷ []) c.args.at = rw (← c.self.view_is) at c.requires in
    let e : c.args.at.block ≡ length xs = at_end xs l c.args.at.block here.block (omega (arith, c.if-at-len.false, c.len.ensures.len)) in
    let w : c.args.at.offset < length l = omega (arith, here.offset, ap length (get_end xs l c.args.at.block e)) in
    let next : suc c.args.at.offset ≡ c.args.at.offset + 1 = omega arith in
    rw (← c.self.view_is, c.remove-else-at-len.ensures.items)
    (ap (λ n. joined (xs ++ (take c.args.at.offset l ++ drop n l) ∷ [])) next ∙ remove_end xs l c.args.at.block c.args.at.offset e w)
