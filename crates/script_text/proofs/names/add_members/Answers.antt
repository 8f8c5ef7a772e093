use Rattle.std.proofs.Common.{◌∙◌}
use Rattle.script_text.specs.Naming.{member_of}
use Rattle.script_text.proofs.Tables.{one_mapped}
use Rattle.script_text.proofs.names.add_members.Goals as goal

pub loop-client-preserved : goal.loop-client-preserved
loop-client-preserved c =
    let at = c.loop-client in
    c.in_ok-push.ensures.items ∙ rw (at.invariant, c.member_of.ensures) (one_mapped member_of c.args.clients.now at.client-index c.client-item.result c.loop-client-test.true c.client-item.is)
