-- An example, computed, of a run where the premises of `law_never_again` hold: a consumer acknowledges a message at a after a snapshot,
-- its update comes to b, and b's replicator to a acts on it; then b starts again, so that reading begins anew, and the consumer moves there.
use Rattle.std.specs.Prelude.{◌≡◌, [], ◌∷◌, ◌++◌, List, true, false, None, codes, map, refl}
use Rattle.std.specs.Fmt.{digits}
use Rattle.std.proofs.Common.{arith}
use Rattle.world_laws.proofs.Types.{ClusterPosition, Consumer, Step}
use Rattle.world_laws.proofs.Types.event
use Rattle.world_laws.proofs.Types.fate
use Rattle.world_laws.proofs.Types.line
use Rattle.world_laws.proofs.Types.cluster_ref
use Rattle.world_laws.proofs.Types.step
use Rattle.world_laws.proofs.Types.sub_kind
use Rattle.world_laws.proofs.Types.targets
use Rattle.geo_base.specs.Client.{reconnect}
use Rattle.geo_base.specs.Forwarding.{receipt, reset, take_packet}
use Rattle.geo_base.specs.Getting.{get}
use Rattle.geo_base.specs.Going.{go}
use Rattle.geo_base.specs.Happening.{broker_does, client_does, happens}
use Rattle.geo_base.specs.Markers.{snap}
use Rattle.geo_base.specs.Offering.{offer}
use Rattle.geo_base.specs.Planned.{planned}
use Rattle.geo_base.specs.Reading.{read}
use Rattle.geo_base.specs.Run.{no_limits, run, run_under, steps}
use Rattle.geo_base.specs.Seeking.{restart}
use Rattle.geo_base.specs.Serving.{serve}
use Rattle.geo_base.specs.Setup.{Setup}
use Rattle.geo_base.specs.Subscription.{Subscription}
use Rattle.geo_base.specs.World.{World, topic_at}
use Rattle.failover_laws.specs.Again.{gives}
use Rattle.failover_laws.specs.Run.{ActsOn, AllLeave, ReadsIndex}

setup : Setup
setup = record {
  per_ledger = 50000;
  clusters = (codes "a" ∷ (codes "b") ∷ []);
  topics = ((codes "t") ∷ []);
  clients =
      record {
        name = (codes "p");
        topic = 0;
        cluster = 0;
        lines =
            line.Produce ∷
            line.Pub 0 targets.All None (codes "m0") ∷ [];
      } ∷
      record {
        name = (codes "c");
        topic = 0;
        cluster = 0;
        lines =
            line.Sub (codes "s1") sub_kind.Exclusive true true ∷
            line.Flow 10 ∷
            line.Ack (record { origin = 0; producer = (codes "p"); seq = 0 }) ∷
            line.Move 1 ∷ [];
      } ∷
      [];
}

-- until b's replicator to a is to read the update
before : List Step
before =
    step.Plain (event.Reconnect 0) ∷
    step.Plain (event.Serve 0 0) ∷
    step.Plain (event.Go 0) ∷
    step.Plain (event.Serve 0 0) ∷
    step.Plain (event.Go 0) ∷
    step.Plain (event.Serve 0 0) ∷
    step.Plain (event.Reconnect 1) ∷
    step.Plain (event.Serve 0 1) ∷
    step.Plain (event.Go 1) ∷
    step.Plain (event.Serve 0 1) ∷
    step.Plain (event.Go 1) ∷
    step.Plain (event.Serve 0 1) ∷
    step.Plain (event.Snap 0 0) ∷
    step.Plain (event.Reset 0 0 1) ∷
    step.Plain (event.Take 0 0 1 fate.Good) ∷
    step.Plain (event.Receipt 0 0 1 fate.Good) ∷
    step.Plain (event.Reset 0 1 0) ∷
    step.Plain (event.Take 0 1 0 fate.Good) ∷
    step.Plain (event.Receipt 0 1 0 fate.Good) ∷
    step.Plain (event.Read 0 0 1) ∷
    step.Plain (event.Read 0 0 1) ∷
    step.Plain (event.Take 0 0 1 fate.Good) ∷
    step.Plain (event.Take 0 0 1 fate.Good) ∷
    step.Plain (event.Receipt 0 0 1 fate.Good) ∷
    step.Plain (event.Receipt 0 0 1 fate.Good) ∷
    step.Plain (event.Read 0 1 0) ∷
    step.Plain (event.Read 0 1 0) ∷
    step.Plain (event.Read 0 1 0) ∷
    step.Plain (event.Take 0 1 0 fate.Good) ∷
    step.Plain (event.Receipt 0 1 0 fate.Good) ∷
    step.Plain (event.Read 0 0 1) ∷
    step.Plain (event.Offer 0 0 0) ∷
    step.Plain (event.Offer 0 0 0) ∷
    step.Plain (event.Offer 0 0 0) ∷
    step.Plain (event.Offer 0 0 0) ∷
    step.Plain (event.Get 1) ∷
    step.Plain (event.Get 1) ∷
    step.Plain (event.Get 1) ∷
    step.Plain (event.Go 1) ∷
    step.Plain (event.Serve 0 1) ∷
    step.Plain (event.Read 0 0 1) ∷
    step.Plain (event.Read 0 0 1) ∷
    step.Plain (event.Take 0 0 1 fate.Good) ∷
    step.Plain (event.Receipt 0 0 1 fate.Good) ∷
    []

-- the update names the second entry of b's topic: the request, after the message
told : List ClusterPosition
told = record { cluster = cluster_ref.Known 1; position = record { ledger = 0; entry = 1 } } ∷ []

-- the replicator reads it next
reads : ReadsIndex setup (run setup before) 0 1 0 (codes "s1") told 1
unfolding setup before told digits go get reconnect serve reset take_packet receipt read snap offer planned broker_does client_does happens steps
reads = record {
  next = record {
    topic = omega arith;
    pair = (omega arith, omega arith, λ is. omega (arith, is));
    index = 3;
    reads = refl;
    update = record { entry = _; stands = refl; origin = refl; is = refl };
  };
  names = refl;
  room = refl;
  short = omega arith;
}

-- so reading it is a step that acts
acts : ActsOn setup (run_under no_limits setup before) 0 1 0 (codes "s1") told 1 (step.Plain (event.Read 0 1 0))
acts = ActsOn.Reads reads

-- b starts again, and c moves there
between : List Step
between =
    step.Plain (event.Restart 0 1) ∷
    step.Plain (event.Go 1) ∷
    step.Plain (event.Serve 1 1) ∷
    step.Plain (event.Serve 1 1) ∷
    step.Plain (event.Serve 1 1) ∷
    []

-- which neither deletes the subscription there, nor seeks it
leave : AllLeave no_limits setup 0 1 (codes "s1") (run_under no_limits setup (before ++ step.Plain (event.Read 0 1 0) ∷ [])) between
unfolding setup before between digits go get reconnect serve reset take_packet receipt read snap offer restart planned broker_does client_does happens steps
leave = (refl, (refl, (refl, (refl, (refl, tt)))))

-- then c's consumer there has permits, and the message that it acknowledged at a is not given to it: an offer that did not ask the cursor
-- would give it, since reading begins anew after a start
after : World
after = run setup (before ++ step.Plain (event.Read 0 1 0) ∷ between)

served : map (λ (v : Subscription). map (λ (k : Consumer). k.permits) v.consumers) (topic_at setup after 0 1).subs ≡ (10 ∷ []) ∷ []
unfolding setup before between after digits go get reconnect serve reset take_packet receipt read snap offer restart planned broker_does client_does happens steps
served = refl

nothing : gives setup 0 1 (codes "s1") 0 (planned setup after (event.Offer 0 1 0)) ≡ false
unfolding setup before between after digits go get reconnect serve reset take_packet receipt read snap offer restart planned broker_does client_does happens steps
nothing = refl
