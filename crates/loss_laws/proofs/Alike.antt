-- What is lost is told of a world by its brokers alone.
use Rattle.std.proofs.Common.{◌≡◌, ℕ, Bool, List, ap}
use Rattle.geo_base.specs.Broker.{Broker}
use Rattle.geo_base.specs.Setup.{Setup}
use Rattle.geo_base.specs.World.{World}
use Rattle.loss_laws.specs.LostLines.{lost_text}

pub same_brokers : (names : Bool) (s : Setup) (w v : World) (x : ℕ) → w.brokers ≡ v.brokers → lost_text names s w x ≡ lost_text names s v x
same_brokers names s w v x same = ap (λ (bs : List Broker). lost_text names s (record w { brokers = bs }) x) same
