use Rattle.std.proofs.Common.{◌≡◌}
use Rattle.live_run.specs.Linked.{HasClients}
use Rattle.live_run.specs.Opened.{AreOpened}
use Rattle.live_run.proofs.rings.NodeRings.link_clients.Given as goal

-- the clients that are linked so far, beside the brokers
abbrev pub invariant-loop-client : goal.invariant-loop-client
invariant-loop-client l = (l.self ≡ l.initial.self) × AreOpened l.ends.rows.items × HasClients l.scenario.setup l.own.topic l.own.cluster l.client l.ends.rows.items
