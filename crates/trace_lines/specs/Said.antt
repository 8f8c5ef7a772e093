-- What is read of a line, as the item that it says.
use Rattle.geo_base.specs.TraceItems.{Act, Acks, Appends, Begins, Creates, Deletes, Item, Seeks, Writes}
use Rattle.cursor_acks.specs.Ranges.{indexes_of}
use Rattle.trace_lines.specs.declared.line.Line.{Line}
use Rattle.trace_lines.specs.declared.line.Line.TheVariants as line
use Rattle.trace_lines.specs.declared.line.Written.{Written}
use Rattle.trace_lines.specs.declared.line.Written.TheVariants as written

abbrev pub act_said : Written → Act
act_said (written.Appends position entry by) = Appends position entry by
act_said (written.Creates sub latest) = Creates sub latest
act_said (written.Deletes sub) = Deletes sub
act_said (written.Acks sub ranges cause) = Acks sub (indexes_of ranges) cause
act_said (written.Seeks sub index) = Seeks sub index

abbrev pub item_said : Line → Item
item_said (line.Begins n) = Begins n
item_said (line.Writes topic cluster w) = Writes topic cluster (act_said w)
