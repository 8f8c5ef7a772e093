use Rattle.std.proofs.Common.{◌≡◌, false, true, sym, ◌∙◌}
use Rattle.geo_base.specs.Cursor.{has}
use Rattle.cursor_acks.specs.Ranges.{indexes_of}
use Rattle.cursor_acks.proofs.Added.{added_again}
use Rattle.cursor_acks.proofs.AddedRange.{one_alone, one_free, one_index}
use Rattle.cursor_acks.proofs.Covered.{has_indexes}
use Rattle.cursor_acks.proofs.list.RangeList.add.Goals as goal

pub put-requires-clause-new : goal.put-requires-clause-new
put-requires-clause-new c = one_free c.args.self.now.list c.args.index (sym c.holds.ensures ∙ c.if-not-holds.true)

pub put-requires-clause-room : goal.put-requires-clause-room
put-requires-clause-room c alone =
    let no : has (indexes_of c.args.self.now.list) c.args.index ≡ false = has_indexes c.args.self.now.list c.args.index ∙ (sym c.holds.ensures ∙ c.if-not-holds.true) in
    c.requires.room (one_alone (indexes_of c.args.self.now.list) c.args.index no ∙ alone)

pub returns-then-not-holds-clause-indexes : goal.returns-then-not-holds-clause-indexes
returns-then-not-holds-clause-indexes c = c.put.ensures.indexes ∙ one_index (indexes_of c.args.self.now.list) c.args.index

pub returns-then-not-holds-clause-grown : goal.returns-then-not-holds-clause-grown
returns-then-not-holds-clause-grown c joined =
    let no : has (indexes_of c.args.self.now.list) c.args.index ≡ false = has_indexes c.args.self.now.list c.args.index ∙ (sym c.holds.ensures ∙ c.if-not-holds.true) in
    c.put.ensures.grown (sym (one_alone (indexes_of c.args.self.now.list) c.args.index no) ∙ joined)

pub returns-else-not-holds-clause-indexes : goal.returns-else-not-holds-clause-indexes
returns-else-not-holds-clause-indexes c = added_again c.args.self.now.list c.args.index c.requires.kept (sym c.holds.ensures ∙ c.if-not-holds.false)
