-- The world that goes on from a state that was saved is that of the laws of resumed runs.
use Rattle.std.proofs.Common.{◌≡◌, ℕ, zero, suc, ◌<◌, List, [], ◌∷◌, length, map, refl, sym, ap, subst, ◌∙◌, arith}
use Rattle.std.specs.Prelude.{Option, None, replicate, slice_index_or}
use Rattle.geo_base.specs.declared.change.Change.TheVariants as change
use Rattle.geo_base.specs.declared.event.Step.{Step}
use Rattle.geo_base.specs.declared.session.Session.{Session}
use Rattle.geo_base.specs.Broker.{Broker, changed, no_broker}
use Rattle.geo_base.specs.Happening.{stops}
use Rattle.geo_base.specs.Run.{all_limits, run_under}
use Rattle.geo_base.specs.Setup.{Setup}
use Rattle.geo_base.specs.World.{World, broker_at, opening_world}
use Rattle.durable_parts.specs.Durable.{durable_part}
use Rattle.script_text.specs.Scenario.{IsScenario}
use Rattle.script_text.specs.Script.{Script}
use Rattle.state_file.specs.State.{state_in}
use Rattle.world_laws.specs.AlikeWorlds.{AreAlike}
use Rattle.world_laws.specs.Starts.{resumed_world}
use Rattle.world_laws.proofs.KeptRuns.ResumedRuns.{resumed_law}
use Rattle.world_laws.proofs.KeptRuns.SavedRuns.{reached_law}
use Rattle.world_laws.proofs.KeptRuns.Starting.{opening_starts}
use Rattle.kept_laws.specs.Saved.{revived, world_from}
use Rattle.kept_laws.proofs.States.{Behind, behind}

copies_of : (X : Type 0) (xs : List (Option X)) (n : ℕ) → length xs ≡ n → replicate {A = Option X} n None ≡ map (λ (x : Option X). None) xs
copies_of X [] zero same = refl
copies_of X [] (suc n) same = absurd (omega (arith, same))
copies_of X (x ∷ xs) zero same = absurd (omega (arith, same))
copies_of X (x ∷ xs) (suc n) same = ap (λ (ys : List (Option X)). None ∷ ys) (copies_of X xs n (omega (arith, same)))

filled : (s : Setup) (b : Broker) → replicate {A = Option ℕ} (length s.clusters) None ≡ map (λ (r : Option ℕ). None) b.receivers
    → replicate {A = Option Session} (length s.clients) None ≡ map (λ (v : Option Session). None) b.sessions → revived s (durable_part b) ≡ changed b change.Forget
filled s b receivers sessions = rw (receivers, sessions) refl

-- what is read of a broker after a stop is that broker
rested : (s : Setup) (w : World) (z : ℕ) → Behind s w → z < length w.brokers → revived s (durable_part (broker_at w z)) ≡ broker_at w z
rested s w z h lt =
    let b = broker_at w z in
    let places = h.start.places.each z lt in
    filled s b (copies_of ℕ b.receivers (length s.clusters) places.receivers) (copies_of Session b.sessions (length s.clients) places.sessions) ∙ (h.start.brokers z lt).at_rest

all_rested : (s : Setup) (bs : List Broker) → ((z : ℕ) → z < length bs → revived s (durable_part (slice_index_or bs z no_broker)) ≡ slice_index_or bs z no_broker) → map (revived s) (map durable_part bs) ≡ bs
all_rested s [] f = refl
all_rested s (b ∷ bs) f = both_same (f zero (omega arith)) (all_rested s bs (λ z lt. f (suc z) (omega (arith, lt))))
  where
    both_same : {a b : Broker} {xs ys : List Broker} → a ≡ b → xs ≡ ys → a ∷ xs ≡ b ∷ ys
    both_same e f = cc

-- so the world that goes on from the state is that of the laws of resumed runs
from_is : (s : Script) (w : World) → Behind s.setup w → world_from (state_in s w) ≡ resumed_world s.setup w
from_is s w h =
    ap (λ (bs : List Broker). record (resumed_world s.setup w) { brokers = bs }) (all_rested s.setup w.brokers (λ z lt. rested s.setup w z h lt))

pub went_on : (s : Script) → IsScenario s → (es : List Step) → (run_under all_limits s.setup es).ended ≡ None → all_limits (stops s.setup (run_under all_limits s.setup es).world) ≡ None
    → let w = stops s.setup (run_under all_limits s.setup es).world in AreAlike w (world_from (state_in s w))
went_on s scenario es none limits =
    let u : World = (run_under all_limits s.setup es).world in
    let start = opening_starts s.setup in
    let alike = resumed_law.loaded s.setup (opening_world s.setup) u start ((reached_law.goes_on s.setup (opening_world s.setup)).limited all_limits es) in
    subst (λ (x : World). AreAlike (stops s.setup u) x) (sym (from_is s (stops s.setup u) (behind s.setup scenario.setup es none limits))) alike

pub turned : (v w : World) → AreAlike v w → AreAlike w v
turned v w h = record {
  brokers = sym h.brokers;
  clients = sym h.clients;
  links = record {
    forward = sym h.links.forward;
    back = sym h.links.back;
    to_broker = sym h.links.to_broker;
    to_client = sym h.links.to_client;
    left = h.links.right;
    right = h.links.left;
  };
  events = sym h.events;
  idle = sym h.idle;
  rounds = sym h.rounds;
  frame_bytes = sym h.frame_bytes;
}
