use Rattle.std.proofs.Common.{◌+◌, ◌-◌, refl, arith}
use Rattle.cursor_acks.specs.declared.range_index.RangeIndex.{RangeIndex}
use Rattle.cursor_acks.proofs.Parts.{high_half, low_half}
use Rattle.cursor_acks.proofs.list.RangeList.make_room.Goals as goal

pub returns-then-at-le-HALF-clause-slot : goal.returns-then-at-le-HALF-clause-slot
returns-then-at-le-HALF-clause-slot c = rw c.split.ensures.blocks (low_half c.args.self.now.blocks c.args.at c.requires.slot c.split.ensures.full c.if-at-le-HALF.true).0

pub returns-then-at-le-HALF-clause-flat : goal.returns-then-at-le-HALF-clause-flat
returns-then-at-le-HALF-clause-flat c = rw c.split.ensures.blocks (low_half c.args.self.now.blocks c.args.at c.requires.slot c.split.ensures.full c.if-at-le-HALF.true).1.0

pub returns-then-at-le-HALF-clause-room : goal.returns-then-at-le-HALF-clause-room
returns-then-at-le-HALF-clause-room c = rw c.split.ensures.blocks (low_half c.args.self.now.blocks c.args.at c.requires.slot c.split.ensures.full c.if-at-le-HALF.true).1.1

pub overflow_add-result : goal.overflow_add-result
overflow_add-result c = omega (arith, c.block.ensures.few)

abbrev moved : RangeIndex → RangeIndex
moved p = record { block = p.block + 1; offset = p.offset - 32 }

pub returns-clause-slot : goal.returns-clause-slot
returns-clause-slot c = rw c.split.ensures.blocks (high_half c.args.self.now.blocks c.args.at (moved c.args.at) c.requires.slot c.split.ensures.full c.if-at-le-HALF.false refl refl).0

pub returns-clause-flat : goal.returns-clause-flat
returns-clause-flat c = rw c.split.ensures.blocks (high_half c.args.self.now.blocks c.args.at (moved c.args.at) c.requires.slot c.split.ensures.full c.if-at-le-HALF.false refl refl).1.0

pub returns-clause-room : goal.returns-clause-room
returns-clause-room c = rw c.split.ensures.blocks (high_half c.args.self.now.blocks c.args.at (moved c.args.at) c.requires.slot c.split.ensures.full c.if-at-le-HALF.false refl refl).1.1
