use Rattle.std.proofs.Common.{length}
use Rattle.pb_fields.proofs.Fields.{HasRead}
use Rattle.pb_fields.proofs.read.all_fields.Given as goal

abbrev pub invariant-loop-rest : goal.invariant-loop-rest
invariant-loop-rest l = HasRead l.bytes l.rest l.fields

abbrev pub decreases-loop-rest : goal.decreases-loop-rest
decreases-loop-rest l = length l.rest
