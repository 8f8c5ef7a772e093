-- The run eleven_snapshots, computed: the definitions give its report. Written by tools/computed_runs.py.
use Rattle.std.specs.Prelude.{◌≡◌, ℕ, ◌∷◌, [], List, true, None, codes, refl}
use Rattle.std.specs.Fmt.{digits}
use Rattle.geo_base.specs.Types.{Step}
use Rattle.geo_base.specs.Types.event
use Rattle.geo_base.specs.Types.fate
use Rattle.geo_base.specs.Types.line
use Rattle.geo_base.specs.Types.step
use Rattle.geo_base.specs.Types.sub_kind
use Rattle.geo_base.specs.Types.targets
use Rattle.geo_base.specs.Client.{reconnect}
use Rattle.geo_base.specs.Forwarding.{receipt, reset, take_packet}
use Rattle.geo_base.specs.Getting.{get}
use Rattle.geo_base.specs.Going.{go}
use Rattle.geo_base.specs.Happening.{broker_does, broker_halts, client_does, happens, stops}
use Rattle.geo_base.specs.Markers.{snap}
use Rattle.geo_base.specs.Offering.{offer}
use Rattle.geo_base.specs.Planned.{planned}
use Rattle.geo_base.specs.Reading.{read}
use Rattle.geo_base.specs.Report.{report_lines}
use Rattle.geo_base.specs.Run.{run, settled_world, steps}
use Rattle.geo_base.specs.Seeking.{restart, seek}
use Rattle.geo_base.specs.Serving.{drop_client, serve}
use Rattle.geo_base.specs.Setup.{Setup}

setup : Setup
setup = record {
  per_ledger = 50000;
  clusters = ((codes "a") ∷ (codes "b") ∷ []);
  topics = ((codes "t") ∷ []);
  clients =
      record {
        name = (codes "p");
        topic = 0;
        cluster = 0;
        lines =
            line.Produce ∷
            line.Pub 0 targets.All None (codes "m0") ∷
            line.Pub 1 targets.All None (codes "m1") ∷ [];
      } ∷
      record {
        name = (codes "c");
        topic = 0;
        cluster = 0;
        lines =
            line.Sub (codes "s1") sub_kind.Exclusive true true ∷
            line.Flow 10 ∷
            line.Ack (record { origin = 0; producer = (codes "p"); seq = 0 }) ∷ [];
      } ∷
      [];
}

schedule : List Step
schedule =
    step.Plain (event.Reconnect 0) ∷
    step.Plain (event.Serve 0 0) ∷
    step.Plain (event.Go 0) ∷
    step.Plain (event.Serve 0 0) ∷
    step.Plain (event.Go 0) ∷
    step.Plain (event.Serve 0 0) ∷
    step.Plain (event.Reconnect 1) ∷
    step.Plain (event.Serve 0 1) ∷
    step.Plain (event.Go 1) ∷
    step.Plain (event.Serve 0 1) ∷
    step.Plain (event.Go 1) ∷
    step.Plain (event.Serve 0 1) ∷
    step.Plain (event.Reset 0 0 1) ∷
    step.Plain (event.Take 0 0 1 fate.Good) ∷
    step.Plain (event.Receipt 0 0 1 fate.Good) ∷
    step.Plain (event.Reset 0 1 0) ∷
    step.Plain (event.Take 0 1 0 fate.Good) ∷
    step.Plain (event.Receipt 0 1 0 fate.Good) ∷
    step.Plain (event.Read 0 0 1) ∷
    step.Plain (event.Take 0 0 1 fate.Good) ∷
    step.Plain (event.Receipt 0 0 1 fate.Good) ∷
    step.Plain (event.Read 0 1 0) ∷
    step.Plain (event.Snap 0 0) ∷
    step.Plain (event.Read 0 0 1) ∷
    step.Plain (event.Take 0 0 1 fate.Good) ∷
    step.Plain (event.Receipt 0 0 1 fate.Good) ∷
    step.Plain (event.Read 0 1 0) ∷
    step.Plain (event.Read 0 1 0) ∷
    step.Plain (event.Take 0 1 0 fate.Good) ∷
    step.Plain (event.Receipt 0 1 0 fate.Good) ∷
    step.Plain (event.Read 0 0 1) ∷
    step.Plain (event.Read 0 0 1) ∷
    step.Plain (event.Go 0) ∷
    step.Plain (event.Serve 0 0) ∷
    step.Plain (event.Read 0 0 1) ∷
    step.Plain (event.Take 0 0 1 fate.Good) ∷
    step.Plain (event.Receipt 0 0 1 fate.Good) ∷
    step.Plain (event.Read 0 1 0) ∷
    step.Plain (event.Snap 0 0) ∷
    step.Plain (event.Read 0 0 1) ∷
    step.Plain (event.Take 0 0 1 fate.Good) ∷
    step.Plain (event.Receipt 0 0 1 fate.Good) ∷
    step.Plain (event.Read 0 1 0) ∷
    step.Plain (event.Read 0 1 0) ∷
    step.Plain (event.Take 0 1 0 fate.Good) ∷
    step.Plain (event.Receipt 0 1 0 fate.Good) ∷
    step.Plain (event.Read 0 0 1) ∷
    step.Plain (event.Read 0 0 1) ∷
    step.Plain (event.Snap 0 0) ∷
    step.Plain (event.Read 0 0 1) ∷
    step.Plain (event.Take 0 0 1 fate.Good) ∷
    step.Plain (event.Receipt 0 0 1 fate.Good) ∷
    step.Plain (event.Read 0 1 0) ∷
    step.Plain (event.Read 0 1 0) ∷
    step.Plain (event.Take 0 1 0 fate.Good) ∷
    step.Plain (event.Receipt 0 1 0 fate.Good) ∷
    step.Plain (event.Read 0 0 1) ∷
    step.Plain (event.Read 0 0 1) ∷
    step.Plain (event.Snap 0 0) ∷
    step.Plain (event.Read 0 0 1) ∷
    step.Plain (event.Take 0 0 1 fate.Good) ∷
    step.Plain (event.Receipt 0 0 1 fate.Good) ∷
    step.Plain (event.Read 0 1 0) ∷
    step.Plain (event.Read 0 1 0) ∷
    step.Plain (event.Take 0 1 0 fate.Good) ∷
    step.Plain (event.Receipt 0 1 0 fate.Good) ∷
    step.Plain (event.Read 0 0 1) ∷
    step.Plain (event.Read 0 0 1) ∷
    step.Plain (event.Snap 0 0) ∷
    step.Plain (event.Read 0 0 1) ∷
    step.Plain (event.Take 0 0 1 fate.Good) ∷
    step.Plain (event.Receipt 0 0 1 fate.Good) ∷
    step.Plain (event.Read 0 1 0) ∷
    step.Plain (event.Read 0 1 0) ∷
    step.Plain (event.Take 0 1 0 fate.Good) ∷
    step.Plain (event.Receipt 0 1 0 fate.Good) ∷
    step.Plain (event.Read 0 0 1) ∷
    step.Plain (event.Read 0 0 1) ∷
    step.Plain (event.Snap 0 0) ∷
    step.Plain (event.Read 0 0 1) ∷
    step.Plain (event.Take 0 0 1 fate.Good) ∷
    step.Plain (event.Receipt 0 0 1 fate.Good) ∷
    step.Plain (event.Read 0 1 0) ∷
    step.Plain (event.Read 0 1 0) ∷
    step.Plain (event.Take 0 1 0 fate.Good) ∷
    step.Plain (event.Receipt 0 1 0 fate.Good) ∷
    step.Plain (event.Read 0 0 1) ∷
    step.Plain (event.Read 0 0 1) ∷
    step.Plain (event.Snap 0 0) ∷
    step.Plain (event.Read 0 0 1) ∷
    step.Plain (event.Take 0 0 1 fate.Good) ∷
    step.Plain (event.Receipt 0 0 1 fate.Good) ∷
    step.Plain (event.Read 0 1 0) ∷
    step.Plain (event.Read 0 1 0) ∷
    step.Plain (event.Take 0 1 0 fate.Good) ∷
    step.Plain (event.Receipt 0 1 0 fate.Good) ∷
    step.Plain (event.Read 0 0 1) ∷
    step.Plain (event.Read 0 0 1) ∷
    step.Plain (event.Snap 0 0) ∷
    step.Plain (event.Read 0 0 1) ∷
    step.Plain (event.Take 0 0 1 fate.Good) ∷
    step.Plain (event.Receipt 0 0 1 fate.Good) ∷
    step.Plain (event.Read 0 1 0) ∷
    step.Plain (event.Read 0 1 0) ∷
    step.Plain (event.Take 0 1 0 fate.Good) ∷
    step.Plain (event.Receipt 0 1 0 fate.Good) ∷
    step.Plain (event.Read 0 0 1) ∷
    step.Plain (event.Read 0 0 1) ∷
    step.Plain (event.Snap 0 0) ∷
    step.Plain (event.Read 0 0 1) ∷
    step.Plain (event.Take 0 0 1 fate.Good) ∷
    step.Plain (event.Receipt 0 0 1 fate.Good) ∷
    step.Plain (event.Read 0 1 0) ∷
    step.Plain (event.Read 0 1 0) ∷
    step.Plain (event.Take 0 1 0 fate.Good) ∷
    step.Plain (event.Receipt 0 1 0 fate.Good) ∷
    step.Plain (event.Read 0 0 1) ∷
    step.Plain (event.Read 0 0 1) ∷
    step.Plain (event.Snap 0 0) ∷
    step.Plain (event.Read 0 0 1) ∷
    step.Plain (event.Take 0 0 1 fate.Good) ∷
    step.Plain (event.Receipt 0 0 1 fate.Good) ∷
    step.Plain (event.Read 0 1 0) ∷
    step.Plain (event.Read 0 1 0) ∷
    step.Plain (event.Take 0 1 0 fate.Good) ∷
    step.Plain (event.Receipt 0 1 0 fate.Good) ∷
    step.Plain (event.Read 0 0 1) ∷
    step.Plain (event.Read 0 0 1) ∷
    step.Plain (event.Snap 0 0) ∷
    step.Plain (event.Read 0 0 1) ∷
    step.Plain (event.Take 0 0 1 fate.Good) ∷
    step.Plain (event.Receipt 0 0 1 fate.Good) ∷
    step.Plain (event.Read 0 1 0) ∷
    step.Plain (event.Read 0 1 0) ∷
    step.Plain (event.Take 0 1 0 fate.Good) ∷
    step.Plain (event.Receipt 0 1 0 fate.Good) ∷
    step.Plain (event.Read 0 0 1) ∷
    step.Plain (event.Read 0 0 1) ∷
    step.Plain (event.Offer 0 0 0) ∷
    step.Plain (event.Offer 0 0 0) ∷
    step.Plain (event.Offer 0 0 0) ∷
    step.Plain (event.Offer 0 0 0) ∷
    step.Plain (event.Offer 0 0 0) ∷
    step.Plain (event.Offer 0 0 0) ∷
    step.Plain (event.Offer 0 0 0) ∷
    step.Plain (event.Offer 0 0 0) ∷
    step.Plain (event.Offer 0 0 0) ∷
    step.Plain (event.Offer 0 0 0) ∷
    step.Plain (event.Offer 0 0 0) ∷
    step.Plain (event.Offer 0 0 0) ∷
    step.Plain (event.Offer 0 0 0) ∷
    step.Plain (event.Offer 0 0 0) ∷
    step.Plain (event.Offer 0 0 0) ∷
    step.Plain (event.Offer 0 0 0) ∷
    step.Plain (event.Offer 0 0 0) ∷
    step.Plain (event.Offer 0 0 0) ∷
    step.Plain (event.Offer 0 0 0) ∷
    step.Plain (event.Offer 0 0 0) ∷
    step.Plain (event.Offer 0 0 0) ∷
    step.Plain (event.Offer 0 0 0) ∷
    step.Plain (event.Offer 0 0 0) ∷
    step.Plain (event.Offer 0 0 0) ∷
    step.Plain (event.Offer 0 0 0) ∷
    step.Plain (event.Offer 0 0 0) ∷
    step.Plain (event.Offer 0 0 0) ∷
    step.Plain (event.Offer 0 0 0) ∷
    step.Plain (event.Offer 0 0 0) ∷
    step.Plain (event.Offer 0 0 0) ∷
    step.Plain (event.Offer 0 0 0) ∷
    step.Plain (event.Offer 0 0 0) ∷
    step.Plain (event.Offer 0 0 0) ∷
    step.Plain (event.Offer 0 0 0) ∷
    step.Plain (event.Offer 0 0 0) ∷
    step.Plain (event.Get 1) ∷
    step.Plain (event.Get 1) ∷
    step.Plain (event.Get 1) ∷
    step.Plain (event.Get 1) ∷
    step.Plain (event.Go 1) ∷
    step.Plain (event.Serve 0 1) ∷
    []

shown : List (List ℕ)
shown =
    (codes "events 179 idle 0 rounds 0") ∷
    (codes "topic t at a") ∷
    (codes "entry 0:0 a p 0 * data - m0") ∷
    (codes "entry 0:1 a pulsar.marker 0 * request a:0:1 a") ∷
    (codes "entry 0:2 b pulsar.marker 0 a response a:0:1 b=0:1") ∷
    (codes "entry 0:3 a pulsar.marker 1 a snapshot a:0:1 0:2 b=0:1") ∷
    (codes "entry 0:4 a p 1 * data - m1") ∷
    (codes "entry 0:5 a pulsar.marker 2 * request a:0:5 a") ∷
    (codes "entry 0:6 b pulsar.marker 1 a response a:0:5 b=0:4") ∷
    (codes "entry 0:7 a pulsar.marker 3 a snapshot a:0:5 0:6 b=0:4") ∷
    (codes "entry 0:8 a pulsar.marker 4 * request a:0:8 a") ∷
    (codes "entry 0:9 b pulsar.marker 2 a response a:0:8 b=0:6") ∷
    (codes "entry 0:10 a pulsar.marker 5 a snapshot a:0:8 0:9 b=0:6") ∷
    (codes "entry 0:11 a pulsar.marker 6 * request a:0:11 a") ∷
    (codes "entry 0:12 b pulsar.marker 3 a response a:0:11 b=0:8") ∷
    (codes "entry 0:13 a pulsar.marker 7 a snapshot a:0:11 0:12 b=0:8") ∷
    (codes "entry 0:14 a pulsar.marker 8 * request a:0:14 a") ∷
    (codes "entry 0:15 b pulsar.marker 4 a response a:0:14 b=0:10") ∷
    (codes "entry 0:16 a pulsar.marker 9 a snapshot a:0:14 0:15 b=0:10") ∷
    (codes "entry 0:17 a pulsar.marker 10 * request a:0:17 a") ∷
    (codes "entry 0:18 b pulsar.marker 5 a response a:0:17 b=0:12") ∷
    (codes "entry 0:19 a pulsar.marker 11 a snapshot a:0:17 0:18 b=0:12") ∷
    (codes "entry 0:20 a pulsar.marker 12 * request a:0:20 a") ∷
    (codes "entry 0:21 b pulsar.marker 6 a response a:0:20 b=0:14") ∷
    (codes "entry 0:22 a pulsar.marker 13 a snapshot a:0:20 0:21 b=0:14") ∷
    (codes "entry 0:23 a pulsar.marker 14 * request a:0:23 a") ∷
    (codes "entry 0:24 b pulsar.marker 7 a response a:0:23 b=0:16") ∷
    (codes "entry 0:25 a pulsar.marker 15 a snapshot a:0:23 0:24 b=0:16") ∷
    (codes "entry 0:26 a pulsar.marker 16 * request a:0:26 a") ∷
    (codes "entry 0:27 b pulsar.marker 8 a response a:0:26 b=0:18") ∷
    (codes "entry 0:28 a pulsar.marker 17 a snapshot a:0:26 0:27 b=0:18") ∷
    (codes "entry 0:29 a pulsar.marker 18 * request a:0:29 a") ∷
    (codes "entry 0:30 b pulsar.marker 9 a response a:0:29 b=0:20") ∷
    (codes "entry 0:31 a pulsar.marker 19 a snapshot a:0:29 0:30 b=0:20") ∷
    (codes "entry 0:32 a pulsar.marker 20 * request a:0:32 a") ∷
    (codes "entry 0:33 b pulsar.marker 10 a response a:0:32 b=0:22") ∷
    (codes "entry 0:34 a pulsar.marker 21 a snapshot a:0:32 0:33 b=0:22") ∷
    (codes "sender b session 1 open mark 35") ∷
    (codes "sub s1 exclusive replicated mark 4 backlog 1") ∷
    (codes "topic t at b") ∷
    (codes "entry 0:0 a p 0 * data - m0") ∷
    (codes "entry 0:1 a pulsar.marker 0 * request a:0:1 a") ∷
    (codes "entry 0:2 b pulsar.marker 0 a response a:0:1 b=0:1") ∷
    (codes "entry 0:3 a p 1 * data - m1") ∷
    (codes "entry 0:4 a pulsar.marker 2 * request a:0:5 a") ∷
    (codes "entry 0:5 b pulsar.marker 1 a response a:0:5 b=0:4") ∷
    (codes "entry 0:6 a pulsar.marker 4 * request a:0:8 a") ∷
    (codes "entry 0:7 b pulsar.marker 2 a response a:0:8 b=0:6") ∷
    (codes "entry 0:8 a pulsar.marker 6 * request a:0:11 a") ∷
    (codes "entry 0:9 b pulsar.marker 3 a response a:0:11 b=0:8") ∷
    (codes "entry 0:10 a pulsar.marker 8 * request a:0:14 a") ∷
    (codes "entry 0:11 b pulsar.marker 4 a response a:0:14 b=0:10") ∷
    (codes "entry 0:12 a pulsar.marker 10 * request a:0:17 a") ∷
    (codes "entry 0:13 b pulsar.marker 5 a response a:0:17 b=0:12") ∷
    (codes "entry 0:14 a pulsar.marker 12 * request a:0:20 a") ∷
    (codes "entry 0:15 b pulsar.marker 6 a response a:0:20 b=0:14") ∷
    (codes "entry 0:16 a pulsar.marker 14 * request a:0:23 a") ∷
    (codes "entry 0:17 b pulsar.marker 7 a response a:0:23 b=0:16") ∷
    (codes "entry 0:18 a pulsar.marker 16 * request a:0:26 a") ∷
    (codes "entry 0:19 b pulsar.marker 8 a response a:0:26 b=0:18") ∷
    (codes "entry 0:20 a pulsar.marker 18 * request a:0:29 a") ∷
    (codes "entry 0:21 b pulsar.marker 9 a response a:0:29 b=0:20") ∷
    (codes "entry 0:22 a pulsar.marker 20 * request a:0:32 a") ∷
    (codes "entry 0:23 b pulsar.marker 10 a response a:0:32 b=0:22") ∷
    (codes "sender a session 1 open mark 24") ∷
    (codes "client p at a lines 3/3 receipts 0 duplicates 0 errors 0") ∷
    (codes "client c at a lines 3/3 receipts 0 duplicates 0 errors 0") ∷
    (codes "got a p 0") ∷
    (codes "got a p 1") ∷
    []

reported : report_lines setup (run setup schedule) ≡ shown
unfolding setup schedule shown digits go get reconnect serve drop_client reset take_packet receipt read snap offer seek restart planned broker_does broker_halts client_does happens stops settled_world steps report_lines
reported = refl
