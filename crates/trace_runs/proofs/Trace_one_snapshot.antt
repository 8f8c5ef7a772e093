-- The run one_snapshot, computed: the definitions give its trace. The setup and the schedule are those of the run of this name in
-- `geo_base`.
use Rattle.std.specs.Prelude.{◌≡◌, ℕ, ◌∷◌, [], List, true, None, codes, refl}
use Rattle.std.specs.Fmt.{digits}
use Rattle.world_laws.proofs.Types.{Step}
use Rattle.world_laws.proofs.Types.event
use Rattle.world_laws.proofs.Types.fate
use Rattle.world_laws.proofs.Types.line
use Rattle.world_laws.proofs.Types.step
use Rattle.world_laws.proofs.Types.sub_kind
use Rattle.world_laws.proofs.Types.targets
use Rattle.geo_base.specs.Client.{reconnect}
use Rattle.geo_base.specs.Forwarding.{receipt, reset, take_packet}
use Rattle.geo_base.specs.Getting.{get}
use Rattle.geo_base.specs.Going.{go}
use Rattle.geo_base.specs.Happening.{broker_does, broker_halts, client_does, happens, stops}
use Rattle.geo_base.specs.Markers.{snap}
use Rattle.geo_base.specs.Offering.{offer}
use Rattle.geo_base.specs.Planned.{planned}
use Rattle.geo_base.specs.Reading.{read}
use Rattle.geo_base.specs.Run.{all_limits, settled_world, steps}
use Rattle.geo_base.specs.Seeking.{restart, seek}
use Rattle.geo_base.specs.Serving.{drop_client, serve}
use Rattle.geo_base.specs.Setup.{Setup}
use Rattle.geo_base.specs.TraceText.{item_line, trace_lines}
use Rattle.geo_base.specs.Traced.{event_items, halt_items, step_items, traced}

setup : Setup
setup = record {
  per_ledger = 50000;
  clusters = ((codes "a") ∷ (codes "b") ∷ []);
  topics = ((codes "t") ∷ []);
  clients =
      record {
        name = (codes "p");
        topic = 0;
        cluster = 0;
        lines =
            line.Produce ∷
            line.Pub 0 targets.All None (codes "m0") ∷ [];
      } ∷
      record {
        name = (codes "c");
        topic = 0;
        cluster = 0;
        lines =
            line.Sub (codes "s1") sub_kind.Exclusive true true ∷
            line.Flow 10 ∷
            line.Ack (record { origin = 0; producer = (codes "p"); seq = 0 }) ∷ [];
      } ∷
      [];
}

schedule : List Step
schedule =
    step.Plain (event.Reconnect 0) ∷
    step.Plain (event.Serve 0 0) ∷
    step.Plain (event.Go 0) ∷
    step.Plain (event.Serve 0 0) ∷
    step.Plain (event.Go 0) ∷
    step.Plain (event.Serve 0 0) ∷
    step.Plain (event.Reconnect 1) ∷
    step.Plain (event.Serve 0 1) ∷
    step.Plain (event.Go 1) ∷
    step.Plain (event.Serve 0 1) ∷
    step.Plain (event.Go 1) ∷
    step.Plain (event.Serve 0 1) ∷
    step.Plain (event.Snap 0 0) ∷
    step.Plain (event.Reset 0 0 1) ∷
    step.Plain (event.Take 0 0 1 fate.Good) ∷
    step.Plain (event.Receipt 0 0 1 fate.Good) ∷
    step.Plain (event.Reset 0 1 0) ∷
    step.Plain (event.Take 0 1 0 fate.Good) ∷
    step.Plain (event.Receipt 0 1 0 fate.Good) ∷
    step.Plain (event.Read 0 0 1) ∷
    step.Plain (event.Read 0 0 1) ∷
    step.Plain (event.Take 0 0 1 fate.Good) ∷
    step.Plain (event.Take 0 0 1 fate.Good) ∷
    step.Plain (event.Receipt 0 0 1 fate.Good) ∷
    step.Plain (event.Receipt 0 0 1 fate.Good) ∷
    step.Plain (event.Read 0 1 0) ∷
    step.Plain (event.Read 0 1 0) ∷
    step.Plain (event.Read 0 1 0) ∷
    step.Plain (event.Take 0 1 0 fate.Good) ∷
    step.Plain (event.Receipt 0 1 0 fate.Good) ∷
    step.Plain (event.Read 0 0 1) ∷
    step.Plain (event.Offer 0 0 0) ∷
    step.Plain (event.Offer 0 0 0) ∷
    step.Plain (event.Offer 0 0 0) ∷
    step.Plain (event.Offer 0 0 0) ∷
    step.Plain (event.Get 1) ∷
    step.Plain (event.Get 1) ∷
    step.Plain (event.Get 1) ∷
    step.Plain (event.Go 1) ∷
    step.Plain (event.Serve 0 1) ∷
    step.Plain (event.Read 0 0 1) ∷
    step.Plain (event.Read 0 0 1) ∷
    step.Plain (event.Take 0 0 1 fate.Good) ∷
    step.Plain (event.Receipt 0 0 1 fate.Good) ∷
    step.Plain (event.Read 0 1 0) ∷
    []

shown : List (List ℕ)
shown =
    (codes "trace") ∷
    (codes "event 1") ∷
    (codes "event 2") ∷
    (codes "event 3") ∷
    (codes "event 4") ∷
    (codes "event 5") ∷
    (codes "event 6") ∷
    (codes "append t a 0:0 a p 0 * data - m0") ∷
    (codes "event 7") ∷
    (codes "event 8") ∷
    (codes "event 9") ∷
    (codes "event 10") ∷
    (codes "create t a s1 earliest") ∷
    (codes "event 11") ∷
    (codes "event 12") ∷
    (codes "event 13") ∷
    (codes "append t a 0:1 a pulsar.marker 0 * request a:0:1 a") ∷
    (codes "event 14") ∷
    (codes "event 15") ∷
    (codes "event 16") ∷
    (codes "event 17") ∷
    (codes "event 18") ∷
    (codes "event 19") ∷
    (codes "event 20") ∷
    (codes "event 21") ∷
    (codes "event 22") ∷
    (codes "append t b 0:0 a p 0 * data - m0") ∷
    (codes "event 23") ∷
    (codes "append t b 0:1 a pulsar.marker 0 * request a:0:1 a") ∷
    (codes "event 24") ∷
    (codes "event 25") ∷
    (codes "event 26") ∷
    (codes "event 27") ∷
    (codes "append t b 0:2 b pulsar.marker 0 a response a:0:1 b=0:1") ∷
    (codes "event 28") ∷
    (codes "event 29") ∷
    (codes "append t a 0:2 b pulsar.marker 0 a response a:0:1 b=0:1") ∷
    (codes "event 30") ∷
    (codes "event 31") ∷
    (codes "append t a 0:3 a pulsar.marker 1 a snapshot a:0:1 0:2 b=0:1") ∷
    (codes "event 32") ∷
    (codes "event 33") ∷
    (codes "ack t a s1 1-1 marker") ∷
    (codes "event 34") ∷
    (codes "ack t a s1 2-2 marker") ∷
    (codes "event 35") ∷
    (codes "ack t a s1 3-3 marker") ∷
    (codes "event 36") ∷
    (codes "event 37") ∷
    (codes "event 38") ∷
    (codes "event 39") ∷
    (codes "event 40") ∷
    (codes "ack t a s1 0-0 client") ∷
    (codes "append t a 0:4 a pulsar.marker 2 * update s1 b=0:1 by 0:3") ∷
    (codes "event 41") ∷
    (codes "event 42") ∷
    (codes "event 43") ∷
    (codes "append t b 0:3 a pulsar.marker 2 * update s1 b=0:1") ∷
    (codes "event 44") ∷
    (codes "event 45") ∷
    (codes "create t b s1 earliest") ∷
    (codes "ack t b s1 0-1 update 0:3") ∷
    []

traced_is : trace_lines setup (traced all_limits setup schedule) ≡ shown
unfolding setup schedule shown digits go get reconnect serve drop_client reset take_packet receipt read snap offer seek restart planned broker_does broker_halts client_does happens stops settled_world steps event_items halt_items step_items item_line
traced_is = refl
