-- The run two_rounds, computed: the definitions give its report. Written by tools/computed_runs.py.
use Rattle.std.specs.Prelude.{◌≡◌, ℕ, ◌∷◌, [], List, true, None, codes, refl}
use Rattle.std.specs.Fmt.{digits}
use Rattle.geo_base.specs.Types.{Step}
use Rattle.geo_base.specs.Types.event
use Rattle.geo_base.specs.Types.fate
use Rattle.geo_base.specs.Types.line
use Rattle.geo_base.specs.Types.step
use Rattle.geo_base.specs.Types.sub_kind
use Rattle.geo_base.specs.Types.targets
use Rattle.geo_base.specs.Client.{reconnect}
use Rattle.geo_base.specs.Forwarding.{receipt, reset, take_packet}
use Rattle.geo_base.specs.Getting.{get}
use Rattle.geo_base.specs.Going.{go}
use Rattle.geo_base.specs.Happening.{broker_does, broker_halts, client_does, happens, stops}
use Rattle.geo_base.specs.Markers.{snap}
use Rattle.geo_base.specs.Offering.{offer}
use Rattle.geo_base.specs.Planned.{planned}
use Rattle.geo_base.specs.Reading.{read}
use Rattle.geo_base.specs.Report.{report_lines}
use Rattle.geo_base.specs.Run.{all_limits, run, run_under, settled_world, steps}
use Rattle.geo_base.specs.Seeking.{restart, seek}
use Rattle.geo_base.specs.Serving.{drop_client, serve}
use Rattle.geo_base.specs.Setup.{Setup}

setup : Setup
setup = record {
  per_ledger = 50000;
  clusters = ((codes "a") ∷ (codes "b") ∷ (codes "c") ∷ []);
  topics = ((codes "t") ∷ []);
  clients =
      record {
        name = (codes "c");
        topic = 0;
        cluster = 0;
        lines =
            line.Sub (codes "s1") sub_kind.Exclusive true true ∷ [];
      } ∷
      record {
        name = (codes "q");
        topic = 0;
        cluster = 2;
        lines =
            line.Produce ∷
            line.Pub 0 targets.All None (codes "m") ∷ [];
      } ∷
      [];
}

schedule : List Step
schedule =
    step.Plain (event.Reconnect 0) ∷
    step.Plain (event.Serve 0 0) ∷
    step.Plain (event.Go 0) ∷
    step.Plain (event.Serve 0 0) ∷
    step.Plain (event.Snap 0 0) ∷
    step.Plain (event.Reset 0 0 1) ∷
    step.Plain (event.Take 0 0 1 fate.Good) ∷
    step.Plain (event.Receipt 0 0 1 fate.Good) ∷
    step.Plain (event.Reset 0 0 2) ∷
    step.Plain (event.Take 0 0 2 fate.Good) ∷
    step.Plain (event.Receipt 0 0 2 fate.Good) ∷
    step.Plain (event.Reset 0 1 0) ∷
    step.Plain (event.Take 0 1 0 fate.Good) ∷
    step.Plain (event.Receipt 0 1 0 fate.Good) ∷
    step.Plain (event.Reset 0 2 0) ∷
    step.Plain (event.Take 0 2 0 fate.Good) ∷
    step.Plain (event.Receipt 0 2 0 fate.Good) ∷
    step.Plain (event.Reset 0 2 1) ∷
    step.Plain (event.Take 0 2 1 fate.Good) ∷
    step.Plain (event.Receipt 0 2 1 fate.Good) ∷
    step.Plain (event.Read 0 0 2) ∷
    step.Plain (event.Take 0 0 2 fate.Good) ∷
    step.Plain (event.Read 0 2 0) ∷
    step.Plain (event.Read 0 2 0) ∷
    step.Plain (event.Take 0 2 0 fate.Good) ∷
    step.Plain (event.Read 0 0 2) ∷
    step.Plain (event.Reconnect 1) ∷
    step.Plain (event.Serve 2 1) ∷
    step.Plain (event.Go 1) ∷
    step.Plain (event.Serve 2 1) ∷
    step.Plain (event.Go 1) ∷
    step.Plain (event.Serve 2 1) ∷
    step.Plain (event.Read 0 2 1) ∷
    step.Plain (event.Read 0 2 1) ∷
    step.Plain (event.Read 0 2 1) ∷
    step.Plain (event.Take 0 2 1 fate.Good) ∷
    step.Plain (event.Read 0 0 1) ∷
    step.Plain (event.Take 0 0 1 fate.Good) ∷
    step.Plain (event.Read 0 1 0) ∷
    step.Plain (event.Read 0 1 0) ∷
    step.Plain (event.Read 0 1 0) ∷
    step.Plain (event.Take 0 1 0 fate.Good) ∷
    step.Plain (event.Read 0 0 1) ∷
    step.Plain (event.Read 0 0 1) ∷
    step.Plain (event.Read 0 0 1) ∷
    step.Plain (event.Read 0 0 1) ∷
    step.Plain (event.Take 0 0 1 fate.Good) ∷
    step.Plain (event.Read 0 1 0) ∷
    step.Plain (event.Read 0 1 0) ∷
    step.Plain (event.Read 0 1 0) ∷
    step.Plain (event.Take 0 1 0 fate.Good) ∷
    step.Plain (event.Read 0 0 1) ∷
    step.Plain (event.Read 0 0 1) ∷
    step.Plain (event.Read 0 0 2) ∷
    step.Plain (event.Read 0 0 2) ∷
    step.Plain (event.Read 0 0 2) ∷
    step.Plain (event.Read 0 0 2) ∷
    step.Plain (event.Take 0 0 2 fate.Good) ∷
    step.Plain (event.Read 0 2 0) ∷
    step.Plain (event.Read 0 2 0) ∷
    step.Plain (event.Read 0 2 0) ∷
    step.Plain (event.Read 0 2 0) ∷
    step.Plain (event.Take 0 2 0 fate.Good) ∷
    step.Plain (event.Take 0 2 0 fate.Good) ∷
    step.Plain (event.Read 0 0 2) ∷
    step.Plain (event.Read 0 0 2) ∷
    step.Plain (event.Read 0 0 2) ∷
    step.Plain (event.Read 0 0 2) ∷
    step.Plain (event.Read 0 0 2) ∷
    step.Plain (event.Read 0 0 2) ∷
    []

shown : List (List ℕ)
shown =
    (codes "events 62 idle 8 rounds 0") ∷
    (codes "topic t at a") ∷
    (codes "entry 0:0 a pulsar.marker 0 * request a:0:0 a") ∷
    (codes "entry 0:1 c pulsar.marker 0 a response a:0:0 c=0:0") ∷
    (codes "entry 0:2 b pulsar.marker 0 a response a:0:0 b=0:1") ∷
    (codes "entry 0:3 a pulsar.marker 1 * request a:0:0/2 a") ∷
    (codes "entry 0:4 b pulsar.marker 1 a response a:0:0/2 b=0:3") ∷
    (codes "entry 0:5 c q 0 * data - m") ∷
    (codes "entry 0:6 c pulsar.marker 1 a response a:0:0/2 c=0:3") ∷
    (codes "entry 0:7 a pulsar.marker 2 a snapshot a:0:0 0:6 b=0:1 c=0:0") ∷
    (codes "sender b session 1 open mark 0") ∷
    (codes "sender c session 1 open mark 0") ∷
    (codes "sub s1 exclusive replicated mark 0 backlog 1") ∷
    (codes "topic t at b") ∷
    (codes "entry 0:0 c q 0 * data - m") ∷
    (codes "entry 0:1 a pulsar.marker 0 * request a:0:0 a") ∷
    (codes "entry 0:2 b pulsar.marker 0 a response a:0:0 b=0:1") ∷
    (codes "entry 0:3 a pulsar.marker 1 * request a:0:0/2 a") ∷
    (codes "entry 0:4 b pulsar.marker 1 a response a:0:0/2 b=0:3") ∷
    (codes "sender a session 1 open mark 2") ∷
    (codes "sender c session 0 closed mark 0") ∷
    (codes "topic t at c") ∷
    (codes "entry 0:0 a pulsar.marker 0 * request a:0:0 a") ∷
    (codes "entry 0:1 c pulsar.marker 0 a response a:0:0 c=0:0") ∷
    (codes "entry 0:2 c q 0 * data - m") ∷
    (codes "entry 0:3 a pulsar.marker 1 * request a:0:0/2 a") ∷
    (codes "entry 0:4 c pulsar.marker 1 a response a:0:0/2 c=0:3") ∷
    (codes "sender a session 1 open mark 1") ∷
    (codes "sender b session 1 open mark 2") ∷
    (codes "client c at a lines 1/1 receipts 0 duplicates 0 errors 0") ∷
    (codes "client q at c lines 2/2 receipts 0 duplicates 0 errors 0") ∷
    []

reported : report_lines setup (run setup schedule) ≡ shown
unfolding setup schedule shown digits go get reconnect serve drop_client reset take_packet receipt read snap offer seek restart planned broker_does broker_halts client_does happens stops settled_world steps report_lines
reported = refl

sent : (run_under all_limits setup schedule).world.frame_bytes ≡ 1348
unfolding setup schedule shown digits go get reconnect serve drop_client reset take_packet receipt read snap offer seek restart planned broker_does broker_halts client_does happens stops settled_world steps report_lines
sent = refl
