-- The run all_3, computed: the definitions give its report. Written by tools/computed_runs.py.
use Rattle.std.specs.Prelude.{◌≡◌, ℕ, ◌∷◌, [], List, true, false, Some, None, codes, refl}
use Rattle.std.specs.Fmt.{digits}
use Rattle.geo_base.specs.Types.{Step}
use Rattle.geo_base.specs.Types.event
use Rattle.geo_base.specs.Types.fate
use Rattle.geo_base.specs.Types.line
use Rattle.geo_base.specs.Types.step
use Rattle.geo_base.specs.Types.sub_kind
use Rattle.geo_base.specs.Types.targets
use Rattle.geo_base.specs.Client.{reconnect}
use Rattle.geo_base.specs.Forwarding.{receipt, reset, take_packet}
use Rattle.geo_base.specs.Getting.{get}
use Rattle.geo_base.specs.Going.{go}
use Rattle.geo_base.specs.Happening.{broker_does, broker_halts, client_does, happens, stops}
use Rattle.geo_base.specs.Markers.{snap}
use Rattle.geo_base.specs.Offering.{offer}
use Rattle.geo_base.specs.Planned.{planned}
use Rattle.geo_base.specs.Reading.{read}
use Rattle.geo_base.specs.Report.{report_lines}
use Rattle.geo_base.specs.Run.{run, settled_world, steps}
use Rattle.geo_base.specs.Seeking.{restart, seek}
use Rattle.geo_base.specs.Serving.{drop_client, serve}
use Rattle.geo_base.specs.Setup.{Setup}

setup : Setup
setup = record {
  per_ledger = 50000;
  clusters = ((codes "a") ∷ (codes "b") ∷ []);
  topics = ((codes "orders") ∷ []);
  clients =
      record {
        name = (codes "p");
        topic = 0;
        cluster = 0;
        lines =
            line.Produce ∷
            line.Pub 0 targets.All None (codes "m24") ∷ [];
      } ∷
      record {
        name = (codes "q");
        topic = 0;
        cluster = 1;
        lines =
            line.Sub (codes "s") sub_kind.Shared false true ∷
            line.Flow 10 ∷ [];
      } ∷
      record {
        name = (codes "r");
        topic = 0;
        cluster = 0;
        lines =
            line.Sub (codes "s") sub_kind.Shared true false ∷
            line.Flow 5 ∷ [];
      } ∷
      record { name = (codes "s"); topic = 0; cluster = 0; lines = [] } ∷
      record {
        name = (codes "t");
        topic = 0;
        cluster = 0;
        lines =
            line.Produce ∷
            line.Pub 0 targets.All None (codes "m56") ∷
            line.Pub 1 targets.All None (codes "m30") ∷
            line.Pub 2 targets.All None [] ∷ [];
      } ∷
      [];
}

schedule : List Step
schedule =
    step.Plain (event.Reconnect 0) ∷
    step.Plain (event.Serve 0 0) ∷
    step.Plain (event.Go 0) ∷
    step.Plain (event.Serve 0 0) ∷
    step.Plain (event.Go 0) ∷
    step.Plain (event.Serve 0 0) ∷
    step.Plain (event.Get 0) ∷
    step.Plain (event.Get 0) ∷
    step.Plain (event.Get 0) ∷
    step.Plain (event.Reconnect 1) ∷
    step.Plain (event.Serve 1 1) ∷
    step.Plain (event.Go 1) ∷
    step.Plain (event.Serve 1 1) ∷
    step.Plain (event.Go 1) ∷
    step.Plain (event.Serve 1 1) ∷
    step.Plain (event.Reconnect 2) ∷
    step.Plain (event.Serve 0 2) ∷
    step.Plain (event.Go 2) ∷
    step.Plain (event.Serve 0 2) ∷
    step.Plain (event.Go 2) ∷
    step.Plain (event.Serve 0 2) ∷
    step.Plain (event.Get 2) ∷
    step.Plain (event.Get 2) ∷
    step.Plain (event.Reconnect 4) ∷
    step.Plain (event.Serve 0 4) ∷
    step.Plain (event.Go 4) ∷
    step.Plain (event.Serve 0 4) ∷
    step.Plain (event.Go 4) ∷
    step.Plain (event.Serve 0 4) ∷
    step.Plain (event.Get 4) ∷
    step.Plain (event.Get 4) ∷
    step.Plain (event.Get 4) ∷
    step.Plain (event.Seek 0 1 0 None) ∷
    step.Plain (event.Reset 0 0 1) ∷
    step.Plain (event.Take 0 0 1 fate.Good) ∷
    step.Plain (event.Receipt 0 0 1 fate.Good) ∷
    step.Plain (event.Reset 0 1 0) ∷
    step.Plain (event.Take 0 1 0 fate.Good) ∷
    step.Plain (event.Receipt 0 1 0 fate.Good) ∷
    step.Plain (event.Read 0 0 1) ∷
    step.Plain (event.Take 0 0 1 fate.Good) ∷
    step.Plain (event.Read 0 0 1) ∷
    step.Plain (event.Take 0 0 1 fate.Good) ∷
    step.Plain (event.Read 0 1 0) ∷
    step.Plain (event.Receipt 0 0 1 fate.Good) ∷
    step.Plain (event.Read 0 1 0) ∷
    step.Plain (event.Receipt 0 0 1 fate.Good) ∷
    step.Halt 8 (event.Seek 0 0 0 (Some (record { ledger = 0; entry = 0 }))) ∷
    step.Plain (event.Snap 0 1) ∷
    step.Plain (event.Read 0 1 0) ∷
    step.Plain (event.Take 0 1 0 fate.Good) ∷
    step.Plain (event.Get 1) ∷
    step.Plain (event.Get 1) ∷
    step.Plain (event.Reconnect 4) ∷
    step.Plain (event.Serve 0 4) ∷
    step.Plain (event.Serve 0 4) ∷
    step.Plain (event.Go 4) ∷
    step.Plain (event.Reconnect 4) ∷
    step.Plain (event.Serve 0 4) ∷
    step.Plain (event.Drop 0 4) ∷
    step.Plain (event.Reconnect 4) ∷
    step.Plain (event.Reconnect 4) ∷
    step.Plain (event.Serve 0 4) ∷
    step.Plain (event.Serve 0 4) ∷
    step.Plain (event.Serve 0 4) ∷
    step.Plain (event.Serve 0 4) ∷
    step.Plain (event.Serve 0 4) ∷
    step.Plain (event.Serve 0 4) ∷
    step.Plain (event.Serve 0 4) ∷
    step.Plain (event.Serve 0 4) ∷
    step.Plain (event.Serve 0 4) ∷
    step.Plain (event.Get 4) ∷
    step.Plain (event.Get 4) ∷
    step.Plain (event.Get 4) ∷
    step.Plain (event.Get 4) ∷
    step.Plain (event.Get 4) ∷
    step.Plain (event.Get 4) ∷
    step.Plain (event.Get 4) ∷
    step.Plain (event.Get 4) ∷
    step.Plain (event.Get 4) ∷
    step.Plain (event.Get 4) ∷
    step.Plain (event.Get 4) ∷
    step.Plain (event.Get 4) ∷
    step.Plain (event.Reconnect 3) ∷
    []

shown : List (List ℕ)
shown =
    (codes "events 84 idle 0 rounds 0") ∷
    (codes "topic orders at a") ∷
    (codes "entry 0:0 a p 0 * data - m24") ∷
    (codes "entry 0:1 a t 0 * data - m56") ∷
    (codes "entry 1:0 a t 1 * data - m30") ∷
    (codes "sender b session 1 closed mark 2") ∷
    (codes "sub s shared local mark 0 backlog 3 seeks 1") ∷
    (codes "topic orders at b") ∷
    (codes "entry 0:0 a p 0 * data - m24") ∷
    (codes "entry 0:1 a t 0 * data - m56") ∷
    (codes "entry 0:2 b pulsar.marker 0 * request b:0:2 b") ∷
    (codes "sender a session 1 open mark 2") ∷
    (codes "sub s shared replicated mark 0 backlog 2 seeks 1") ∷
    (codes "client p at a lines 2/2 receipts 1 duplicates 0 errors 0") ∷
    (codes "client q at b lines 2/2 receipts 0 duplicates 0 errors 0") ∷
    (codes "client r at a lines 2/2 receipts 0 duplicates 0 errors 0") ∷
    (codes "client s at a lines 0/0 receipts 0 duplicates 0 errors 0") ∷
    (codes "client t at a lines 3/4 receipts 1 duplicates 1 errors 0") ∷
    []

reported : report_lines setup (run setup schedule) ≡ shown
unfolding setup schedule shown digits go get reconnect serve drop_client reset take_packet receipt read snap offer seek restart planned broker_does broker_halts client_does happens stops settled_world steps report_lines
reported = refl
