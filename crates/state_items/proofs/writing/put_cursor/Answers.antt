use Rattle.cursor_acks.proofs.OneList.{told_few}
use Rattle.state_items.proofs.writing.put_cursor.Goals as goal

pub put_ranges-requires : goal.put_ranges-requires
put_ranges-requires c = told_few c.args.written.now.indexes c.ranges-2.result.now.list c.is_told_by_ranges.ensures c.ranges-2.ensures
