use Rattle.pb_fields.proofs.Varints.{HasRead}
use Rattle.pb_fields.proofs.read.varint_at.Given as goal

abbrev pub invariant-loop-index : goal.invariant-loop-index
invariant-loop-index l = HasRead l.bytes l.index l.number
