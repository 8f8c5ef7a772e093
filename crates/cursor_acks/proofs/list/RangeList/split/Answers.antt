use Rattle.std.proofs.Common.{◌≡◌, ◌+◌, ◌<◌, ◌≤◌, ◌∙◌, List, [], ◌∷◌, ◌++◌, get_or, length, ap, sym, arith}
use Rattle.std.specs.Prelude.{Some, vec_capacity}
use Rattle.std.specs.List.{All}
use Rattle.std.proofs.lemmas.List.{length-append, length-drop, length-take}
use Rattle.std.proofs.lemmas.List.Elements.{All-pop}
use Rattle.cursor_acks.specs.declared.range.IndexRange.{IndexRange}
use Rattle.cursor_acks.specs.Blocks.{joined, spare_of, split_at}
use Rattle.cursor_acks.proofs.Joined.{split_excess, split_joined}
use Rattle.cursor_acks.proofs.Parts.{at_end, full_free, get_end, get_first, parts_split, spare_end_split, spare_split, split_end, split_first}
use Rattle.cursor_acks.proofs.list.RangeList.split.Goals as goal

pub unreachable-requires : goal.unreachable-requires
unreachable-requires c =
    let xs : List (List IndexRange) = c.self.inside.before.list in
    let l : List IndexRange = c.self.inside.last.items in
    let lt' : c.args.block < length (xs ++ l ∷ []) = rw (← c.self.view_is) at c.requires.block in
    let full : length (get_or (xs ++ l ∷ []) c.args.block []) ≡ 64 = rw (← c.self.view_is) at c.requires.full in
    let some : 0 < spare_of xs (length c.self.inside.free.items) (vec_capacity c.self.inside.last) (length l) = rw (← c.self.view_is) at c.requires.room in
    let there = full_free xs l c.args.block (length c.self.inside.free.items) (vec_capacity c.self.inside.last) lt' full some in
    omega (arith, there, c.self.inside.free.ok.0, c.in-None.ensures.cases.0)

pub invariant_of-self : goal.invariant_of-self
invariant_of-self c =
    let xs : List (List IndexRange) = c.self.inside.before.list in
    let l : List IndexRange = c.self.inside.last.items in
    let free : List (List IndexRange) = c.self.inside.free.items in
    let less : List (List IndexRange) = c.pop.new.self.items in
    let one : length less + 1 ≡ length free = omega (arith, ap length c.in-Some.ensures.items, length-append less (c.in-Some.empty ∷ [])) in
    let empty : All (λ (b : List IndexRange). b ≡ []) less = (All-pop (λ (b : List IndexRange). b ≡ []) free less (Some c.in-Some.empty) c.in-Some.ensures.items c.self.invariant.empty).0 in
    parts_split xs c.split.new.self.list c.self.inside.before.room c.split.new.self.room l l (vec_capacity c.self.inside.last) free less c.self.invariant one c.split.ensures.room empty c.self.invariant.short

pub push-requires-clause-half : goal.push-requires-clause-half
push-requires-clause-half c = omega (arith, ap length c.take_half.ensures.lower, length-take 32 c.self.inside.last.items)

pub invariant_of-self-else-block-len : goal.invariant_of-self-else-block-len
invariant_of-self-else-block-len c =
    let xs : List (List IndexRange) = c.self.inside.before.list in
    let l : List IndexRange = c.self.inside.last.items in
    let free : List (List IndexRange) = c.self.inside.free.items in
    let less : List (List IndexRange) = c.pop.new.self.items in
    let one : length less + 1 ≡ length free = omega (arith, ap length c.in-Some.ensures.items, length-append less (c.in-Some.empty ∷ [])) in
    let empty : All (λ (b : List IndexRange). b ≡ []) less = (All-pop (λ (b : List IndexRange). b ≡ []) free less (Some c.in-Some.empty) c.in-Some.ensures.items c.self.invariant.empty).0 in
    let short : length c.take_half.new.from.items ≤ 64 = omega (arith, ap length c.take_half.ensures.upper, length-drop 32 l, c.self.invariant.short) in
    rw c.take_half.ensures.capacity
    (parts_split xs c.push.new.self.list c.self.inside.before.room c.push.new.self.room l c.take_half.new.from.items (vec_capacity c.self.inside.last) free less c.self.invariant one c.push.ensures.room empty short)

pub returns-then-block-len-clause-blocks : goal.returns-then-block-len-clause-blocks
returns-then-block-len-clause-blocks c =
    let xs : List (List IndexRange) = c.self.inside.before.list in
    let l : List IndexRange = c.self.inside.last.items in
    let lt : c.args.block < length xs = omega (arith, c.if-block-len.true, c.len.ensures.len) in
    rw (← c.self.view_is, c.split.ensures.list) (split_first xs l c.args.block lt)

pub returns-then-block-len-clause-list : goal.returns-then-block-len-clause-list
returns-then-block-len-clause-list c =
    let xs : List (List IndexRange) = c.self.inside.before.list in
    let l : List IndexRange = c.self.inside.last.items in
    let lt' : c.args.block < length (xs ++ l ∷ []) = rw (← c.self.view_is) at c.requires.block in
    let full : length (get_or (xs ++ l ∷ []) c.args.block []) ≡ 64 = rw (← c.self.view_is) at c.requires.full in
    let lt : c.args.block < length xs = omega (arith, c.if-block-len.true, c.len.ensures.len) in
    rw (← c.self.view_is, c.split.ensures.list) (ap joined (split_first xs l c.args.block lt) ∙ split_joined (xs ++ l ∷ []) c.args.block lt')

pub returns-then-block-len-clause-spare : goal.returns-then-block-len-clause-spare
returns-then-block-len-clause-spare c =
    let xs : List (List IndexRange) = c.self.inside.before.list in
    let l : List IndexRange = c.self.inside.last.items in
    let free : List (List IndexRange) = c.self.inside.free.items in
    let less : List (List IndexRange) = c.pop.new.self.items in
    let one : length less + 1 ≡ length free = omega (arith, ap length c.in-Some.ensures.items, length-append less (c.in-Some.empty ∷ [])) in
    let lt' : c.args.block < length (xs ++ l ∷ []) = rw (← c.self.view_is) at c.requires.block in
    let full : length (get_or (xs ++ l ∷ []) c.args.block []) ≡ 64 = rw (← c.self.view_is) at c.requires.full in
    let lt : c.args.block < length xs = omega (arith, c.if-block-len.true, c.len.ensures.len) in
    let size : length (get_or xs c.args.block []) ≡ 64 = sym (ap length (get_first xs l c.args.block lt)) ∙ full in
    rw (← c.self.view_is, c.split.ensures.list)
    (spare_split xs (split_at xs c.args.block) (length free) (length less) (vec_capacity c.self.inside.last) (length l) (split_excess xs c.args.block lt size) one)

pub returns-else-block-len-clause-list : goal.returns-else-block-len-clause-list
returns-else-block-len-clause-list c =
    let xs : List (List IndexRange) = c.self.inside.before.list in
    let l : List IndexRange = c.self.inside.last.items in
    let lt' : c.args.block < length (xs ++ l ∷ []) = rw (← c.self.view_is) at c.requires.block in
    let full : length (get_or (xs ++ l ∷ []) c.args.block []) ≡ 64 = rw (← c.self.view_is) at c.requires.full in
    let e : c.args.block ≡ length xs = at_end xs l c.args.block lt' (omega (arith, c.if-block-len.false, c.len.ensures.len)) in
    rw (← c.self.view_is, c.push.ensures.list, c.take_half.ensures.lower, c.take_half.ensures.upper) (ap joined (split_end xs l c.args.block e) ∙ split_joined (xs ++ l ∷ []) c.args.block lt')

pub returns-else-block-len-clause-spare : goal.returns-else-block-len-clause-spare
returns-else-block-len-clause-spare c =
    let xs : List (List IndexRange) = c.self.inside.before.list in
    let l : List IndexRange = c.self.inside.last.items in
    let free : List (List IndexRange) = c.self.inside.free.items in
    let less : List (List IndexRange) = c.pop.new.self.items in
    let one : length less + 1 ≡ length free = omega (arith, ap length c.in-Some.ensures.items, length-append less (c.in-Some.empty ∷ [])) in
    let lt' : c.args.block < length (xs ++ l ∷ []) = rw (← c.self.view_is) at c.requires.block in
    let full : length (get_or (xs ++ l ∷ []) c.args.block []) ≡ 64 = rw (← c.self.view_is) at c.requires.full in
    let e : c.args.block ≡ length xs = at_end xs l c.args.block lt' (omega (arith, c.if-block-len.false, c.len.ensures.len)) in
    let size : length l ≡ 64 = sym (ap length (get_end xs l c.args.block e)) ∙ full in
    rw (← c.self.view_is, c.push.ensures.list, c.take_half.ensures.lower, c.take_half.ensures.upper, c.take_half.ensures.capacity)
    (spare_end_split xs l (length free) (length less) (vec_capacity c.self.inside.last) size (c.self.invariant.wide (omega (arith, one))) one)
