-- An example, computed, of a move that shows how sharp its laws are: nothing is published, a consumer subscribes at a, and its subscription
-- is handed over to b. One offer fewer hands nothing over, and the update names just the first index that was free at b before.
use Rattle.std.specs.Prelude.{◌≡◌, [], ◌∷◌, ◌++◌, ℕ, List, length, true, Some, None, codes, is_some, refl}
use Rattle.std.specs.Fmt.{digits}
use Rattle.world_laws.proofs.Types.{ClusterPosition, Step}
use Rattle.world_laws.proofs.Types.event
use Rattle.world_laws.proofs.Types.line
use Rattle.world_laws.proofs.Types.marker
use Rattle.world_laws.proofs.Types.cluster_ref
use Rattle.world_laws.proofs.Types.step
use Rattle.world_laws.proofs.Types.sub_kind
use Rattle.geo_base.specs.Broker.{sub_named}
use Rattle.geo_base.specs.Client.{reconnect}
use Rattle.geo_base.specs.Forwarding.{receipt, reset, take_packet}
use Rattle.geo_base.specs.Going.{go}
use Rattle.geo_base.specs.Happening.{broker_does, client_does, happens}
use Rattle.geo_base.specs.Laws.{MarkerAt}
use Rattle.geo_base.specs.Markers.{snap}
use Rattle.geo_base.specs.Offering.{offer}
use Rattle.geo_base.specs.Planned.{planned}
use Rattle.geo_base.specs.Reading.{read}
use Rattle.geo_base.specs.Run.{run, settled_world, steps}
use Rattle.geo_base.specs.Serving.{serve}
use Rattle.geo_base.specs.Setup.{Setup}
use Rattle.geo_base.specs.Updating.{only_index, positions_for}
use Rattle.geo_base.specs.World.{World, topic_at}
use Rattle.failover_laws.specs.Ended.{asking_steps}
use Rattle.failover_laws.specs.Moves.{move_steps}

setup : Setup
setup = record {
  per_ledger = 50000;
  clusters = (codes "a" ∷ (codes "b") ∷ []);
  topics = ((codes "t") ∷ []);
  clients =
      record {
        name = (codes "c");
        topic = 0;
        cluster = 0;
        lines = line.Sub (codes "s1") sub_kind.Exclusive true true ∷ [];
      } ∷
      [];
}

-- the consumer subscribes
before : List Step
before =
    step.Plain (event.Reconnect 0) ∷
    step.Plain (event.Serve 0 0) ∷
    step.Plain (event.Go 0) ∷
    step.Plain (event.Serve 0 0) ∷ []

-- all settles, and a snapshot is taken: a's topic has a request, an answer and the snapshot
three_entries : length (topic_at setup (run setup (before ++ step.Settle ∷ [] ++ asking_steps 0 0)) 0 0).entries ≡ 3
unfolding setup before digits go reconnect serve reset take_packet receipt read snap offer planned broker_does client_does happens steps settled_world
three_entries = refl

-- with three offers b has the subscription
after : ℕ → World
after k = run setup (before ++ move_steps k 0 0 0)

three_offers : is_some (sub_named (topic_at setup (after 3) 0 1).subs (codes "s1")) ≡ true
unfolding setup before after digits go reconnect serve reset take_packet receipt read snap offer planned broker_does client_does happens steps settled_world
three_offers = refl

-- and with two it has not
two_offers : sub_named (topic_at setup (after 2) 0 1).subs (codes "s1") ≡ None
unfolding setup before after digits go reconnect serve reset take_packet receipt read snap offer planned broker_does client_does happens steps settled_world
two_offers = refl

-- nothing stood at b when the snapshot was asked for
nothing_there : length (topic_at setup (run setup (before ++ step.Settle ∷ [])) 0 1).entries ≡ 0
unfolding setup before digits go reconnect serve reset take_packet receipt read snap offer planned broker_does client_does happens steps settled_world
nothing_there = refl

-- and the update names index 0 there
told : List ClusterPosition
told = record { cluster = cluster_ref.Known 1; position = record { ledger = 0; entry = 0 } } ∷ []

stands : MarkerAt (topic_at setup (after 3) 0 0) 3 0 (marker.Update (codes "s1") told)
unfolding setup before after told digits go reconnect serve reset take_packet receipt read snap offer planned broker_does client_does happens steps settled_world
stands = record { entry = _; stands = refl; origin = refl; is = refl }

names : only_index (topic_at setup (after 3) 0 1).ledgers (positions_for 1 told) ≡ Some 0
unfolding setup before after told digits go reconnect serve reset take_packet receipt read snap offer planned broker_does client_does happens steps settled_world
names = refl

-- where three entries stand then
then_there : length (topic_at setup (after 3) 0 1).entries ≡ 3
unfolding setup before after digits go reconnect serve reset take_packet receipt read snap offer planned broker_does client_does happens steps settled_world
then_there = refl
