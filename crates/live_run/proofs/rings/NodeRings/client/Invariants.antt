use Rattle.std.proofs.Common.{◌≡◌}
use Rattle.live_run.specs.Linked.{HasSites}
use Rattle.live_run.specs.Opened.{AreOpened}
use Rattle.live_run.proofs.rings.NodeRings.client.Given as goal

-- the brokers that are linked so far
abbrev pub invariant-loop-cluster : goal.invariant-loop-cluster
invariant-loop-cluster l = (l.self ≡ l.initial.self) × AreOpened l.ends.rows.items × HasSites l.cluster l.ends.rows.items
