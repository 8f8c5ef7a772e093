use Rattle.std.proofs.Common.{◌∙◌}
use Rattle.script_text.proofs.Tables.{one_table, subs_apart}
use Rattle.script_text.proofs.declarations.Declarations.add_sub_tables.Goals as goal

pub table_of-requires : goal.table_of-requires
table_of-requires c = record { apart = rw c.sub_names.ensures (subs_apart c.args.self.now.setup c.loop-topic.topic) }

pub loop-topic-preserved : goal.loop-topic-preserved
loop-topic-preserved c =
    c.in_ok-push.ensures.items ∙ rw (c.loop-topic.invariant, c.in_ok-table.ensures, c.sub_names.ensures) (one_table c.args.self.now.setup c.loop-topic.topic)
