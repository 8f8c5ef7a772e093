use Rattle.pb_fields.specs.Field.{HasNumber}
use Rattle.pb_fields.proofs.Messages.{AllByRecursion-filter, unknown-all}
use Rattle.pb_fields.proofs.values.keep_unknown.Goals as goal

pub invariant_of-fields : goal.invariant_of-fields
invariant_of-fields c = rw c.retain_unknown.ensures (AllByRecursion-filter HasNumber _ _ c.fields.invariant)

pub returns-clause-unknown : goal.returns-clause-unknown
returns-clause-unknown c = rw (c.retain_unknown.ensures, c.fields.view_is) (unknown-all c.args.rows.now _)
