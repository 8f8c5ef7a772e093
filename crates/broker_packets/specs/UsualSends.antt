-- A SEND of the usual form that is acted on.
use Rattle.std.specs.Prelude.{◌≡◌, ℕ, ◌≤◌, true}
use Rattle.geo_base.specs.Broker.{Broker, Site, receiver_at}
use Rattle.geo_base.specs.Receiver.{is_from, is_open}
use Rattle.geo_base.specs.Sizes.{entry_size, most_entry_size}
use Rattle.broker_plans.specs.declared.usual.Came.{Came}
use Rattle.frame_values.specs.Usual.{entry_viewed, source_viewed}
use Rattle.pulsar_frames.specs.declared.view.MessageView.{MessageView}

-- its message says that x stored it first, and is small enough
pub record IsBrought (h : Site) (x : ℕ) (m : MessageView) : Type 0 where
  pub from : is_from x (source_viewed h.clusters m) ≡ true
  pub small : entry_size h.clusters (entry_viewed x m) ≤ most_entry_size

-- and it is of the session that is open on the link from x
pub record Receives (h : Site) (b : Broker) (x : ℕ) (m : Came) : Type 0 where
  pub open_now : is_open (receiver_at b x) m.session ≡ true
  pub brings : IsBrought h x m.message
