use Rattle.state_file.proofs.Rows.{clients_step}
use Rattle.state_file.proofs.saving.put_clients.Goals as goal

pub loop-number-preserved : goal.loop-number-preserved
loop-number-preserved c =
    clients_step c.args.clients.now c.loop-number.number _ c.loop-number.out c.put_client.new.out _ c.loop-number-test.true c.loop-number.invariant (rw c.index-clients-number.is at c.in_ok-put_client.ensures.ok)
