use Rattle.std.proofs.Common.{◌≡◌}
use Rattle.live_run.specs.Linked.{HasBrokers}
use Rattle.live_run.specs.Opened.{AreOpened}
use Rattle.live_run.proofs.rings.NodeRings.link_brokers.Given as goal

-- the brokers that are linked so far
abbrev pub invariant-loop-remote : goal.invariant-loop-remote
invariant-loop-remote l = (l.self ≡ l.initial.self) × AreOpened l.ends.rows.items × HasBrokers l.own.cluster l.remote l.ends.rows.items
