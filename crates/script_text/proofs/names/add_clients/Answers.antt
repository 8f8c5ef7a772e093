use Rattle.script_text.proofs.Tables.{fresh_after}
use Rattle.script_text.proofs.names.add_clients.Goals as goal

pub push-requires : goal.push-requires
push-requires c =
    rw (c.as_bytes.ensures, c.name.ensures.name, c.loop-client.invariant) (fresh_after c.args.clients.now c.loop-client.client-index c.client-item.result c.requires.apart c.loop-client-test.true c.client-item.is)
