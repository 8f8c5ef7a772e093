-- The same in a run that goes on where another was kept.
use Rattle.std.proofs.Common.{◌≡◌, ℕ, ◌^◌, ◌<◌, ◌≤◌, true, List, [], ◌∷◌, ◌++◌, length, refl, sym, ap, subst, ◌∙◌, append_assoc}
use Rattle.std.specs.Prelude.{Option, Some}
use Rattle.world_laws.proofs.Types.{ClusterPosition, Marker, Step}
use Rattle.world_laws.proofs.Types.marker
use Rattle.world_laws.proofs.Types.cluster_ref
use Rattle.world_laws.proofs.Types.step
use Rattle.geo_base.specs.Broker.{Broker, sub_named}
use Rattle.geo_base.specs.Laws.{MarkerAt, begun}
use Rattle.geo_base.specs.Moments.{NotBegun}
use Rattle.geo_base.specs.Planned.{Planned}
use Rattle.geo_base.specs.Run.{Ran, no_limits, run, steps}
use Rattle.geo_base.specs.Safe.{IsEntry}
use Rattle.geo_base.specs.Scripted.{IsScripted}
use Rattle.geo_base.specs.Setup.{Setup, sub_name}
use Rattle.geo_base.specs.World.{World, topic_at}
use Rattle.world_laws.specs.AlikeWorlds.{AreAlike, RunsAlike}
use Rattle.world_laws.proofs.KeptRuns.AlikeRuns.{none_even, run_alike}
use Rattle.world_laws.proofs.KeptRuns.AlikeWorlds.{planned_alike}
use Rattle.world_laws.proofs.KeptRuns.ResumedRuns.{between_alike}
use Rattle.failover_laws.specs.Covers.{IsAskedSince, NotOfThen}
use Rattle.failover_laws.specs.Procedure.{IsOffered, LawOffered, led_to, offers}
use Rattle.failover_laws.specs.Run.{AllLeave, step_leaves}
use Rattle.failover_laws.specs.Since.{Since, leaves, leaves_behind}
use Rattle.failover_laws.specs.Switched.{HasAllOf}
use Rattle.failover_laws.proofs.Offering.Offered.{offered}
use Rattle.failover_laws.proofs.Offering.Twins.{again_alike, have_alike, same_at}

step_alike : (s : Setup) (t y : ℕ) (n : List ℕ) (v w : World) (e : Step) → AreAlike v w → step_leaves s t y n w e ≡ true → step_leaves s t y n v e ≡ true
step_alike s t y n v w (step.Plain e) h is = subst (λ (o : Option Planned). leaves s t y n o ≡ true) (sym (planned_alike s v w e h)) is
step_alike s t y n v w (step.Halt k e) h is = subst (λ (o : Option Planned). leaves_behind k s t y n o ≡ true) (sym (planned_alike s v w e h)) is
step_alike s t y n v w step.Settle h is = refl
step_alike s t y n v w step.Stop h is = refl

leave_alike : (s : Setup) (t y : ℕ) (n : List ℕ) (q r : Ran) (es : List Step) → RunsAlike q r → AllLeave no_limits s t y n r es → AllLeave no_limits s t y n q es
leave_alike s t y n q r [] h all = tt
leave_alike s t y n q r (e ∷ es) h all =
    (step_alike s t y n q.world r.world e h.world all.0, leave_alike s t y n (steps no_limits s q e) (steps no_limits s r e) es (run_alike no_limits s none_even q r h (e ∷ [])) all.1)

marker_at : (b b' : Broker) (i x : ℕ) (m : Marker) → b ≡ b' → MarkerAt b i x m → MarkerAt b' i x m
marker_at b b' i x m same h = record { entry = h.entry; stands = subst (λ (c : Broker). IsEntry c i h.entry) same h.stands; origin = h.origin; is = h.is }

abbrev asked_alike : (s : Setup) (v v' w w' : World) (t x : ℕ) (remote : List ClusterPosition) → AreAlike v v' → AreAlike w w' → IsAskedSince s v w t x remote → IsAskedSince s v' w' t x remote
asked_alike s v v' w w' t x remote av aw q =
    let bw = same_at s w w' t x aw in record {
      id = q.id;
      local = q.local;
      listed = q.listed;
      index = q.index;
      snapshot = marker_at (topic_at s w t x) (topic_at s w' t x) q.index x (marker.Snapshot q.id q.local q.listed) bw q.snapshot;
      same = q.same;
      request = q.request;
      asks = marker_at (topic_at s w t x) (topic_at s w' t x) q.request x (marker.Request q.id (cluster_ref.Known x)) bw q.asks;
      since = subst (λ (b : Broker). length b.entries ≤ q.request) (same_at s v v' t x av) q.since;
    }

alike_back : (s : Setup) (v w : World) → AreAlike v w → AreAlike w v
alike_back s v w h = record {
  brokers = sym h.brokers;
  clients = sym h.clients;
  links = record {
    forward = sym h.links.forward;
    back = sym h.links.back;
    to_broker = sym h.links.to_broker;
    to_client = sym h.links.to_client;
    left = h.links.right;
    right = h.links.left;
  };
  events = sym h.events;
  idle = sym h.idle;
  rounds = sym h.rounds;
  frame_bytes = sym h.frame_bytes;
}

offered_on : (s : Setup) → IsScripted s → (v : World) (past before after : List Step) → AreAlike (run s past) v → IsOffered s v before after
offered_on s scripted from past before after alike t x y num k u remote lt known pair asked here replicated drained lacks enough short leave =
    (have_alike s v' v z' z t y x n v_alike z_alike got.0, again_alike s v' v z' z t y x n v_alike z_alike got.1)
  where
    n : List ℕ
    n = sub_name s t num

    end : List Step
    end = step.Settle ∷ []

    more : List Step
    more = after ++ offers k t x num

    v : World
    v = led_to s from before

    w : World
    w = led_to s from (before ++ after)

    z : World
    z = led_to s from (before ++ more ++ end)

    v' : World
    v' = run s (past ++ before)

    w' : World
    w' = run s (past ++ before ++ after)

    z' : World
    z' = run s (past ++ before ++ more ++ end)

    whole : (fs : List Step) → AreAlike (run s (past ++ fs)) (led_to s from fs)
    whole fs = between_alike s from past fs NotBegun alike

    v_alike : AreAlike v' v
    v_alike = whole before

    w_alike : AreAlike w' w
    w_alike = subst (λ (fs : List Step). AreAlike (run s fs) w) (sym (append_assoc past before after)) (whole (before ++ after))

    z_alike : AreAlike z' z
    z_alike =
        subst (λ (fs : List Step). AreAlike (run s fs) z)
        (sym (ap (λ (fs : List Step). fs ++ end) (append_assoc past before more) ∙ append_assoc past (before ++ more) end)) (whole (before ++ more ++ end))

    bw : topic_at s w t x ≡ topic_at s w' t x
    bw = sym (same_at s w' w t x w_alike)

    got : HasAllOf s v' z' t y x n × ((o : World) → Since s t y n z' o → NotOfThen s v' o t y n x)
    got =
        offered s scripted (past ++ before) after t x y num k u remote lt known pair
        (asked_alike s v v' w w' t x remote (alike_back s v' v v_alike) (alike_back s w' w w_alike) asked)
        (subst (λ (b : Broker). sub_named b.subs n ≡ Some u) bw here) replicated
        (λ i e lower at. drained i e lower (subst (λ (b : Broker). IsEntry b i e) (sym bw) at)) lacks enough
        (subst (λ (m : ℕ). m < 2 ^ 62) (sym z_alike.events) short)
        (leave_alike s t y n (begun v') (begun v) after (record { world = v_alike; ended = refl }) leave)

pub offered_law : LawOffered
offered_law = record { script = offered; resumed = offered_on }
