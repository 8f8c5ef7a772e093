use Rattle.pb_fields.proofs.Fields.{HasRead-none, HasRead-more}
use Rattle.pb_fields.proofs.read.all_fields.Goals as goal

pub loop-rest-init : goal.loop-rest-init
loop-rest-init c = rw c.in_ok-fields.ensures (HasRead-none c.args.bytes.now)

pub loop-rest-preserved : goal.loop-rest-preserved
loop-rest-preserved c = rw c.in_ok-push-in-Ok.ensures.ok (HasRead-more c.args.bytes.now c.loop-rest.rest.now c.in-Ok.after.now c.loop-rest.fields c.in-Ok.field c.loop-rest.invariant c.in-Ok.ensures.ok)
