-- How a stop of everything leaves the brokers.
use Rattle.std.specs.Prelude.{◌≡◌}
use Rattle.geo_base.specs.Plan.{done}
use Rattle.geo_base.specs.Seeking.{restart}
use Rattle.broker.specs.Node.{BrokerView, SameNode}

-- a broker that may have other room
pub record IsSame (old new : BrokerView) : Type 0 where
  pub node : SameNode old new
  pub broker : new.broker ≡ old.broker

-- a broker that has started again
pub record IsRestarted (old new : BrokerView) : Type 0 where
  pub node : SameNode old new
  pub broker : new.broker ≡ done old.site.per_ledger old.broker restart
