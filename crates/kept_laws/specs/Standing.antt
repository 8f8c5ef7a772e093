-- What a kept world stands for of the machine's.
use Rattle.std.specs.Prelude.{◌≡◌, ℕ, ◌+◌, nat_lt, if◌then◌else◌, Option, Some, None}
use Rattle.geo_base.specs.Run.{most_events, most_sent_bytes}
use Rattle.geo_base.specs.Setup.{Setup}
use Rattle.geo_base.specs.World.{World}
use Rattle.kept_laws.specs.Kept.{Kept}
use Rattle.links.specs.Standing.{LinksStand}

-- all but the links are the machine's; on each link the packets that are not taken yet are, as their canonical texts
pub record Stands (s : Setup) (k : Kept) (w : World) : Type 0 where
  pub brokers : k.brokers ≡ w.brokers
  pub clients : k.clients ≡ w.clients
  pub links : LinksStand s.clusters k.links w.links
  pub broker_clocks : k.broker_clocks ≡ w.broker_clocks
  pub client_clocks : k.client_clocks ≡ w.client_clocks
  pub events : k.events ≡ w.events
  pub idle : k.idle ≡ w.idle
  pub rounds : k.rounds ≡ w.rounds
  pub frame_bytes : k.frame_bytes ≡ w.frame_bytes

-- the limit that counts are past, if any: of events and idle events first, then of the bytes of all frames
abbrev pub limit_of : (events idle frame_bytes : ℕ) → Option ℕ
limit_of events idle frame_bytes =
    if nat_lt most_events (events + idle) then Some 2 else if nat_lt most_sent_bytes frame_bytes then Some 3 else None
