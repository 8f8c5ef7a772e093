use Rattle.node_log.proofs.Lists.{all_push}
use Rattle.node_log.proofs.list.NodeLogs.push.Goals as goal
use Rattle.node_log.specs.Logs.{IsReplayed}

pub invariant_of-self-2 : goal.invariant_of-self-2
invariant_of-self-2 g c = rw c.in_ok-push.ensures.items (all_push IsReplayed c.self.inside.logs.items c.args.logged c.self.invariant c.history-replayed.ensures.replayed)
