-- Settling as the world does it: event by event, and round by round.
use Rattle.std.proofs.Common.{◌≡◌, ℕ, ◌+◌, ◌<◌, ◌≤◌, refl, sym, ◌∙◌, ap, subst, arith}
use Rattle.geo_base.specs.Setup.{Setup}
use Rattle.geo_base.specs.World.{World}
use Rattle.kept_laws.specs.Standing.{Stands}
use Rattle.world_laws.specs.Starts.{most_at_start}
use Rattle.kept_laws.proofs.Reaching.{round_reached}
use Rattle.world.specs.Steps.{IsLater}
use Rattle.world.specs.World.{IsAt, WorldView, kept_of}
use Rattle.world.proofs.SettlingRuns.{counted}

-- ---- events

pub each_first : (b : WorldView) → IsLater b b
each_first b = record { events = omega arith; idle = refl; rounds = refl }

pub later_on : (first now new : WorldView) → IsLater first now → IsLater now new → IsLater first new
later_on first now new h k = record { events = omega (arith, h.events, k.events); idle = k.idle ∙ h.idle; rounds = k.rounds ∙ h.rounds }

-- ---- a round

pub counted_stands : (s : Setup) (mid new : WorldView) (v : World) → new ≡ record mid { rounds = mid.rounds + 1 } → Stands s (kept_of mid) v → Stands s (kept_of new) (counted v)
counted_stands s mid new v is h = rw is (record {
  brokers = h.brokers;
  clients = h.clients;
  links = h.links;
  broker_clocks = h.broker_clocks;
  client_clocks = h.client_clocks;
  events = h.events;
  idle = h.idle;
  rounds = ap (λ (n : ℕ). n + 1) h.rounds;
  frame_bytes = h.frame_bytes;
})

-- such a world is one of a run
pub counted_at : (s : Setup) (mid new : WorldView) → IsAt s mid → new ≡ record mid { rounds = mid.rounds + 1 } → IsAt s new
counted_at s mid new h is =
    let v = h.world in
    let at : IsAt s (record mid { rounds = mid.rounds + 1 }) = record {
      setup = h.setup;
      brokers = h.brokers;
      world = counted v;
      reached = round_reached s v (v.rounds + 1) h.reached;
      stands = counted_stands s mid (record mid { rounds = mid.rounds + 1 }) v refl h.stands;
      within = record { few = h.within.few; short = h.within.short };
    } in
    subst (IsAt s) (sym is) at

-- it did an event, so it may be counted
pub counted_few : (old mid : WorldView) → old.rounds ≤ most_at_start + old.events → IsLater old mid → (mid.events ≡ old.events → ⊥) → mid.rounds < most_at_start + mid.events
counted_few old mid few later busy =
    let more : old.events < mid.events = grind (arith, later.events, busy) in
    omega (arith, few, later.rounds, more)
