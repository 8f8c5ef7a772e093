use Rattle.std.proofs.Common.{◌≡◌, take}
use Rattle.pb_fields.specs.Message.{lowest_absent}
use Rattle.pb_fields.proofs.message.lowest_missing.Given as goal

abbrev pub invariant-loop-row : goal.invariant-loop-row
invariant-loop-row l = l.lowest ≡ lowest_absent (take l.row-index l.rows) l.fields
