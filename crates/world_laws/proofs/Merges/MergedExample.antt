-- An example of a merge, computed: two clusters and a client, three histories, some events at the same stamp.
use Rattle.std.specs.Prelude.{◌≡◌, ℕ, [], ◌∷◌, List, map, codes, refl}
use Rattle.world_laws.proofs.Types.{Event}
use Rattle.world_laws.proofs.Types.event
use Rattle.world_laws.proofs.Types.fate
use Rattle.world_laws.proofs.Types.line
use Rattle.geo_base.specs.Agreement.{recorded_sent, recorded_taken}
use Rattle.geo_base.specs.Client.{reconnect}
use Rattle.geo_base.specs.Forwarding.{receipt, reset, take_packet}
use Rattle.geo_base.specs.Getting.{get}
use Rattle.geo_base.specs.Going.{go}
use Rattle.geo_base.specs.Happening.{broker_does, client_does, happens, next_stamp}
use Rattle.geo_base.specs.History.{RecordedEvent, sent_with}
use Rattle.geo_base.specs.Merge.{Merged, merge_of, of_node, steps_of}
use Rattle.geo_base.specs.NodeState.{acts, clock_at, state_at, takes_from}
use Rattle.geo_base.specs.Nodes.{node_number, node_of}
use Rattle.geo_base.specs.Planned.{planned}
use Rattle.geo_base.specs.Run.{run, steps}
use Rattle.geo_base.specs.Serving.{serve}
use Rattle.geo_base.specs.Setup.{Setup}
use Rattle.geo_base.specs.World.{Back, ToClient, World, link_at, opening_world, packet_at}
use Rattle.world_laws.proofs.Merges.LinkTables.{input_link}

setup : Setup
setup = record {
  per_ledger = 50000;
  clusters = codes "a" ∷ codes "b" ∷ [];
  topics = codes "t" ∷ [];
  clients = record { name = codes "p"; topic = 0; cluster = 0; lines = line.Produce ∷ [] } ∷ [];
}

-- what the nodes record when these events happen in this order
abbrev entry : Setup → World → Event → Merged
entry s w e =
    let n = node_number s (node_of s e) in
    let st = state_at s w n in
    let p = packet_at w.links (input_link s (node_of s e) (takes_from st e)) in
    let stamp = next_stamp (clock_at s w n) p in
    record { node = n; recorded = record { event = e; taken = p; sent = map (sent_with stamp) (acts s st e p).sent; stamp = stamp } }

abbrev recorded : Setup → World → List Event → List Merged
recorded s w [] = []
recorded s w (e ∷ es) = entry s w e ∷ recorded s (happens s w e) es

happened : List Event
happened =
    event.Reset 0 1 0 ∷
    event.Take 0 1 0 fate.Good ∷
    event.Reconnect 0 ∷
    event.Serve 0 0 ∷
    event.Reset 0 0 1 ∷
    event.Take 0 0 1 fate.Good ∷
    event.Get 0 ∷
    event.Receipt 0 1 0 fate.Good ∷
    event.Receipt 0 0 1 fate.Good ∷
    []

abbrev histories : List (List RecordedEvent)
histories = let ms = recorded setup (opening_world setup) happened in of_node 0 ms ∷ of_node 1 ms ∷ of_node 2 ms ∷ []

abbrev stamps_of : List Merged → List ℕ
stamps_of ms = map (λ (m : Merged). m.recorded.stamp) ms

abbrev nodes_in : List Merged → List ℕ
nodes_in ms = map (λ (m : Merged). m.node) ms

abbrev events_in : List Merged → List Event
events_in ms = map (λ (m : Merged). m.recorded.event) ms

stamps : stamps_of (merge_of histories) ≡ 1 ∷ 1 ∷ 2 ∷ 3 ∷ 4 ∷ 4 ∷ 5 ∷ 6 ∷ 6 ∷ []
unfolding setup happened happens planned broker_does client_does steps reset take_packet receipt serve reconnect get go
stamps = refl

nodes : nodes_in (merge_of histories) ≡ 1 ∷ 2 ∷ 0 ∷ 0 ∷ 0 ∷ 2 ∷ 1 ∷ 0 ∷ 1 ∷ []
unfolding setup happened happens planned broker_does client_does steps reset take_packet receipt serve reconnect get go
nodes = refl

-- the run over the merge, whose last two events stand the other way round than they happened, has the links that were
-- recorded
taken_b : (link_at (run setup (steps_of (merge_of histories))).links (Back 1 0)).taken ≡ 1
unfolding setup happened happens planned broker_does client_does steps reset take_packet receipt serve reconnect get go
taken_b = refl

sent_c : (link_at (run setup (steps_of (merge_of histories))).links (ToClient 0 0)).sent ≡ recorded_sent setup histories (ToClient 0 0)
unfolding setup happened happens planned broker_does client_does steps reset take_packet receipt serve reconnect get go
sent_c = refl

taken_c : recorded_taken setup histories (ToClient 0 0) ≡ recorded_sent setup histories (ToClient 0 0)
unfolding setup happened happens planned broker_does client_does steps reset take_packet receipt serve reconnect get go
taken_c = refl
