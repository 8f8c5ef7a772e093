-- What an audit can see of the machine's world, entries with their positions and the cursors of subscriptions, and what a trace of a
-- run is for it.
use Rattle.std.specs.Prelude.{◌≡◌, ℕ, List, length, map, Ok}
use Rattle.std.specs.List.{range_with_len}
use Rattle.geo_base.specs.declared.entry.Entry.{Entry}
use Rattle.geo_base.specs.declared.position.Position.{Position}
use Rattle.geo_base.specs.declared.event.Step.{Step}
use Rattle.geo_base.specs.Audit.{audited, settled_from}
use Rattle.geo_base.specs.Broker.{Broker}
use Rattle.geo_base.specs.Mirror.{Mirror, MirrorSub, Mirrors, opening_mirrors}
use Rattle.geo_base.specs.Run.{all_limits, run_under}
use Rattle.geo_base.specs.Scripted.{IsScripted}
use Rattle.geo_base.specs.Settled.{IsSettled, settled_under}
use Rattle.geo_base.specs.Setup.{Setup}
use Rattle.geo_base.specs.Subscription.{Subscription}
use Rattle.geo_base.specs.Topic.{position_at}
use Rattle.geo_base.specs.TraceItems.{Item}
use Rattle.geo_base.specs.Traced.{traced}
use Rattle.geo_base.specs.World.{World}

abbrev pub sub_seen : Subscription → MirrorSub
sub_seen v = record { name = v.name; cursor = v.cursor }

abbrev pub positions_in : List ℕ → ℕ → ℕ → List Position
positions_in ledgers k n = map (position_at ledgers) (range_with_len k n)

abbrev pub seen : Broker → Mirror
seen b = record { entries = b.entries; positions = positions_in b.ledgers 0 (length b.entries); subs = map sub_seen b.subs }

abbrev pub world_seen : World → Mirrors
world_seen w = record { topics = map seen w.brokers; events = w.events }

-- The trace of a script's run within the limits: it is accepted, and makes what the run makes, the same topics with the same
-- positions, the same cursors and the same count of events. And its lines settle the messages that the run settles
pub record IsTracedBy (s : Setup) (es : List Step) (items : List Item) : Type 0 where
  pub accepted : audited s items ≡ Ok (world_seen (run_under all_limits s es).world)
  pub told : (t : ℕ) (n : List ℕ) (e : Entry) → IsSettled (λ u m. settled_from s (opening_mirrors s) items u m) t n e → IsSettled (λ u m. settled_under all_limits s es u m) t n e
  pub all : (t : ℕ) (n : List ℕ) (e : Entry) → IsSettled (λ u m. settled_under all_limits s es u m) t n e → IsSettled (λ u m. settled_from s (opening_mirrors s) items u m) t n e

-- of every list of steps, so at each step of a run
abbrev pub LawTraced : Type 0
LawTraced = (s : Setup) → IsScripted s → (es : List Step) → IsTracedBy s es (traced all_limits s es)
