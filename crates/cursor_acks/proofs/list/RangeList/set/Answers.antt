use Rattle.std.proofs.Common.{◌≡◌, ◌+◌, ◌-◌, ◌*◌, ◌<◌, List, [], ◌∷◌, ◌++◌, get_or, length, ap, arith}
use Rattle.cursor_acks.specs.declared.range.IndexRange.{IndexRange}
use Rattle.cursor_acks.specs.declared.range_index.RangeIndex.{RangeIndex}
use Rattle.std.specs.Prelude.{vec_capacity}
use Rattle.cursor_acks.specs.Blocks.{IsRange, last_room}
use Rattle.cursor_acks.proofs.Found.{range_within}
use Rattle.cursor_acks.proofs.Parts.{at_end, get_end, get_first, places_end, places_first, set_end, set_excess, set_first}
use Rattle.cursor_acks.proofs.list.RangeList.set.Goals as goal

pub returns-then-at-len-clause-list : goal.returns-then-at-len-clause-list
returns-then-at-len-clause-list c =
    let xs : List (List IndexRange) = c.self.inside.before.list in
    let l : List IndexRange = c.self.inside.last.items in
    let here : IsRange (xs ++ l ∷ []) c.args.at = rw (← c.self.view_is) at c.requires in
    let lt : c.args.at.block < length xs = omega (arith, c.if-at-len.true, c.len.ensures.len) in
    let w : c.args.at.offset < length (get_or xs c.args.at.block []) = omega (arith, here.offset, ap length (get_first xs l c.args.at.block lt)) in
    rw (← c.self.view_is, c.set.ensures.list) (set_first xs l c.args.at.block c.args.at.offset c.args.range lt w)

pub returns-then-at-len-clause-within : goal.returns-then-at-len-clause-within
returns-then-at-len-clause-within c =
    let xs : List (List IndexRange) = c.self.inside.before.list in
    let l : List IndexRange = c.self.inside.last.items in
    let here : IsRange (xs ++ l ∷ []) c.args.at = rw (← c.self.view_is) at c.requires in
    rw (← c.self.view_is) (range_within (xs ++ l ∷ []) c.args.at here)

pub returns-then-at-len-clause-places : goal.returns-then-at-len-clause-places
returns-then-at-len-clause-places c =
    let xs : List (List IndexRange) = c.self.inside.before.list in
    let l : List IndexRange = c.self.inside.last.items in
    let here : IsRange (xs ++ l ∷ []) c.args.at = rw (← c.self.view_is) at c.requires in
    let lt : c.args.at.block < length xs = omega (arith, c.if-at-len.true, c.len.ensures.len) in
    let w : c.args.at.offset < length (get_or xs c.args.at.block []) = omega (arith, here.offset, ap length (get_first xs l c.args.at.block lt)) in
    rw (← c.self.view_is, c.set.ensures.list) (λ (p : RangeIndex) h. places_first xs l c.args.at.block c.args.at.offset c.args.range p lt h)

pub returns-then-at-len-clause-spare : goal.returns-then-at-len-clause-spare
returns-then-at-len-clause-spare c =
    let xs : List (List IndexRange) = c.self.inside.before.list in
    let l : List IndexRange = c.self.inside.last.items in
    let here : IsRange (xs ++ l ∷ []) c.args.at = rw (← c.self.view_is) at c.requires in
    let lt : c.args.at.block < length xs = omega (arith, c.if-at-len.true, c.len.ensures.len) in
    let w : c.args.at.offset < length (get_or xs c.args.at.block []) = omega (arith, here.offset, ap length (get_first xs l c.args.at.block lt)) in
    rw (← c.self.view_is, c.set.ensures.list) (ap (λ n. 32 * length c.self.inside.free.items + last_room (vec_capacity c.self.inside.last) (length l) - n) (set_excess xs c.args.at.block c.args.at.offset c.args.range lt))

pub returns-else-at-len-clause-list : goal.returns-else-at-len-clause-list
returns-else-at-len-clause-list c =
    let xs : List (List IndexRange) = c.self.inside.before.list in
    let l : List IndexRange = c.self.inside.last.items in
    let here : IsRange (xs ++ l ∷ []) c.args.at = rw (← c.self.view_is) at c.requires in
    let e : c.args.at.block ≡ length xs = at_end xs l c.args.at.block here.block (omega (arith, c.if-at-len.false, c.len.ensures.len)) in
    let w : c.args.at.offset < length l = omega (arith, here.offset, ap length (get_end xs l c.args.at.block e)) in
    rw (← c.self.view_is) (set_end xs l c.args.at.block c.args.at.offset c.args.range e w)

pub returns-else-at-len-clause-within : goal.returns-else-at-len-clause-within
returns-else-at-len-clause-within c =
    let xs : List (List IndexRange) = c.self.inside.before.list in
    let l : List IndexRange = c.self.inside.last.items in
    let here : IsRange (xs ++ l ∷ []) c.args.at = rw (← c.self.view_is) at c.requires in
    rw (← c.self.view_is) (range_within (xs ++ l ∷ []) c.args.at here)

pub returns-else-at-len-clause-places : goal.returns-else-at-len-clause-places
returns-else-at-len-clause-places c =
    let xs : List (List IndexRange) = c.self.inside.before.list in
    let l : List IndexRange = c.self.inside.last.items in
    rw (← c.self.view_is) (λ (p : RangeIndex) h. places_end xs l c.args.at.offset c.args.range p h)
