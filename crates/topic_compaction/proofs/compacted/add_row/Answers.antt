use Rattle.std.proofs.Common.{rules}
use Rattle.topic_compaction.proofs.Noted.{row_behind}
use Rattle.topic_compaction.proofs.compacted.add_row.Goals as goal

pub returns-in_ok-push : goal.returns-in_ok-push
returns-in_ok-push c = λ k. row_behind k c.args.rows.now.items c.push.new.self.items c.args.entry.now c.in_ok-from_str.field-0 c.in-Data-Some.key c.args.index (search rules) (search rules) (search rules) (search rules)
