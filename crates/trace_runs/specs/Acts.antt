-- What an event writes durably, told at the broker as it is before the event.
use Rattle.std.specs.Prelude.{List, [], ◌∷◌, ◌++◌}
use Rattle.geo_base.specs.declared.planned.Cause.{Cause}
use Rattle.geo_base.specs.declared.write.Write.{Write}
use Rattle.geo_base.specs.Broker.{Broker, Site}
use Rattle.geo_base.specs.TraceItems.{Act}
use Rattle.geo_base.specs.Traced.{act_of}

-- each write at the same broker
abbrev pub acts_before : Site → Cause → Broker → List Write → List Act
acts_before h c b [] = []
acts_before h c b (w ∷ ws) = act_of h c b w ++ acts_before h c b ws
