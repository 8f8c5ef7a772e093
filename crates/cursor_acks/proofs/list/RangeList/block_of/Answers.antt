use Rattle.std.proofs.Common.{List, [], ◌∷◌, ◌++◌}
use Rattle.cursor_acks.specs.declared.range.IndexRange.{IndexRange}
use Rattle.cursor_acks.specs.Blocks.{joined}
use Rattle.cursor_acks.specs.RangeIndexes.{AreKept}
use Rattle.cursor_acks.proofs.Found.{kept_left}
use Rattle.cursor_acks.proofs.Joined.{joined_append}
use Rattle.cursor_acks.proofs.list.RangeList.block_of.Goals as goal

pub find-requires : goal.find-requires
find-requires c =
    let xs : List (List IndexRange) = c.self.inside.before.list in
    let l : List IndexRange = c.self.inside.last.items in
    let all : AreKept (joined (xs ++ l ∷ [])) = rw (← c.self.view_is) at c.requires in
    kept_left (joined xs) (joined (l ∷ [])) (rw (joined_append xs (l ∷ [])) at all)
