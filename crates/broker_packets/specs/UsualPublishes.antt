-- A SEND of the usual form that is published.
use Rattle.std.specs.Prelude.{◌≡◌, ℕ, true}
use Rattle.geo_base.specs.Broker.{Broker, Site, session_at}
use Rattle.geo_base.specs.Producing.{name_with}
use Rattle.broker_plans.specs.declared.usual.Came.{Came}
use Rattle.frame_values.specs.Usual.{entry_viewed, source_viewed}
use Rattle.broker_packets.specs.Producing.{published}
use Rattle.broker_packets.specs.Serving.{is_in, open_at}

-- it is of a producer of client c's open session, and its message is sound
pub record Publishes (h : Site) (b : Broker) (c : ℕ) (m : Came) : Type 0 where
  pub open_now : is_in m.session (session_at b c) ≡ true
  pub sound : published h (name_with m.id (open_at b c).producers) m.seq (source_viewed h.clusters m.message) (entry_viewed 0 m.message) ≡ true
