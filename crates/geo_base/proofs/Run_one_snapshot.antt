-- The run one_snapshot, computed: the definitions give its report. Written by tools/computed_runs.py.
use Rattle.std.specs.Prelude.{◌≡◌, ℕ, ◌∷◌, [], List, true, None, codes, refl}
use Rattle.std.specs.Fmt.{digits}
use Rattle.geo_base.specs.Types.{Step}
use Rattle.geo_base.specs.Types.event
use Rattle.geo_base.specs.Types.fate
use Rattle.geo_base.specs.Types.line
use Rattle.geo_base.specs.Types.step
use Rattle.geo_base.specs.Types.sub_kind
use Rattle.geo_base.specs.Types.targets
use Rattle.geo_base.specs.Client.{reconnect}
use Rattle.geo_base.specs.Forwarding.{receipt, reset, take_packet}
use Rattle.geo_base.specs.Getting.{get}
use Rattle.geo_base.specs.Going.{go}
use Rattle.geo_base.specs.Happening.{broker_does, broker_halts, client_does, happens, stops}
use Rattle.geo_base.specs.Markers.{snap}
use Rattle.geo_base.specs.Offering.{offer}
use Rattle.geo_base.specs.Planned.{planned}
use Rattle.geo_base.specs.Reading.{read}
use Rattle.geo_base.specs.Report.{report_lines}
use Rattle.geo_base.specs.Run.{all_limits, run, run_under, settled_world, steps}
use Rattle.geo_base.specs.Seeking.{restart, seek}
use Rattle.geo_base.specs.Serving.{drop_client, serve}
use Rattle.geo_base.specs.Setup.{Setup}

setup : Setup
setup = record {
  per_ledger = 50000;
  clusters = ((codes "a") ∷ (codes "b") ∷ []);
  topics = ((codes "t") ∷ []);
  clients =
      record {
        name = (codes "p");
        topic = 0;
        cluster = 0;
        lines =
            line.Produce ∷
            line.Pub 0 targets.All None (codes "m0") ∷ [];
      } ∷
      record {
        name = (codes "c");
        topic = 0;
        cluster = 0;
        lines =
            line.Sub (codes "s1") sub_kind.Exclusive true true ∷
            line.Flow 10 ∷
            line.Ack (record { origin = 0; producer = (codes "p"); seq = 0 }) ∷ [];
      } ∷
      [];
}

schedule : List Step
schedule =
    step.Plain (event.Reconnect 0) ∷
    step.Plain (event.Serve 0 0) ∷
    step.Plain (event.Go 0) ∷
    step.Plain (event.Serve 0 0) ∷
    step.Plain (event.Go 0) ∷
    step.Plain (event.Serve 0 0) ∷
    step.Plain (event.Reconnect 1) ∷
    step.Plain (event.Serve 0 1) ∷
    step.Plain (event.Go 1) ∷
    step.Plain (event.Serve 0 1) ∷
    step.Plain (event.Go 1) ∷
    step.Plain (event.Serve 0 1) ∷
    step.Plain (event.Snap 0 0) ∷
    step.Plain (event.Reset 0 0 1) ∷
    step.Plain (event.Take 0 0 1 fate.Good) ∷
    step.Plain (event.Receipt 0 0 1 fate.Good) ∷
    step.Plain (event.Reset 0 1 0) ∷
    step.Plain (event.Take 0 1 0 fate.Good) ∷
    step.Plain (event.Receipt 0 1 0 fate.Good) ∷
    step.Plain (event.Read 0 0 1) ∷
    step.Plain (event.Read 0 0 1) ∷
    step.Plain (event.Take 0 0 1 fate.Good) ∷
    step.Plain (event.Take 0 0 1 fate.Good) ∷
    step.Plain (event.Receipt 0 0 1 fate.Good) ∷
    step.Plain (event.Receipt 0 0 1 fate.Good) ∷
    step.Plain (event.Read 0 1 0) ∷
    step.Plain (event.Read 0 1 0) ∷
    step.Plain (event.Read 0 1 0) ∷
    step.Plain (event.Take 0 1 0 fate.Good) ∷
    step.Plain (event.Receipt 0 1 0 fate.Good) ∷
    step.Plain (event.Read 0 0 1) ∷
    step.Plain (event.Offer 0 0 0) ∷
    step.Plain (event.Offer 0 0 0) ∷
    step.Plain (event.Offer 0 0 0) ∷
    step.Plain (event.Offer 0 0 0) ∷
    step.Plain (event.Get 1) ∷
    step.Plain (event.Get 1) ∷
    step.Plain (event.Get 1) ∷
    step.Plain (event.Go 1) ∷
    step.Plain (event.Serve 0 1) ∷
    step.Plain (event.Read 0 0 1) ∷
    step.Plain (event.Read 0 0 1) ∷
    step.Plain (event.Take 0 0 1 fate.Good) ∷
    step.Plain (event.Receipt 0 0 1 fate.Good) ∷
    step.Plain (event.Read 0 1 0) ∷
    []

shown : List (List ℕ)
shown =
    (codes "events 45 idle 0 rounds 0") ∷
    (codes "topic t at a") ∷
    (codes "entry 0:0 a p 0 * data - m0") ∷
    (codes "entry 0:1 a pulsar.marker 0 * request a:0:1 a") ∷
    (codes "entry 0:2 b pulsar.marker 0 a response a:0:1 b=0:1") ∷
    (codes "entry 0:3 a pulsar.marker 1 a snapshot a:0:1 0:2 b=0:1") ∷
    (codes "entry 0:4 a pulsar.marker 2 * update s1 b=0:1") ∷
    (codes "sender b session 1 open mark 5") ∷
    (codes "sub s1 exclusive replicated mark 4 backlog 0") ∷
    (codes "topic t at b") ∷
    (codes "entry 0:0 a p 0 * data - m0") ∷
    (codes "entry 0:1 a pulsar.marker 0 * request a:0:1 a") ∷
    (codes "entry 0:2 b pulsar.marker 0 a response a:0:1 b=0:1") ∷
    (codes "entry 0:3 a pulsar.marker 2 * update s1 b=0:1") ∷
    (codes "sender a session 1 open mark 4") ∷
    (codes "sub s1 exclusive replicated mark 2 backlog 0") ∷
    (codes "client p at a lines 2/2 receipts 0 duplicates 0 errors 0") ∷
    (codes "client c at a lines 3/3 receipts 0 duplicates 0 errors 0") ∷
    (codes "got a p 0") ∷
    []

reported : report_lines setup (run setup schedule) ≡ shown
unfolding setup schedule shown digits go get reconnect serve drop_client reset take_packet receipt read snap offer seek restart planned broker_does broker_halts client_does happens stops settled_world steps report_lines
reported = refl

sent : (run_under all_limits setup schedule).world.frame_bytes ≡ 743
unfolding setup schedule shown digits go get reconnect serve drop_client reset take_packet receipt read snap offer seek restart planned broker_does broker_halts client_does happens stops settled_world steps report_lines
sent = refl
