-- The run packet_twice, computed: the definitions give its report. Written by tools/computed_runs.py.
use Rattle.std.specs.Prelude.{◌≡◌, ℕ, ◌∷◌, [], List, None, codes, refl}
use Rattle.std.specs.Fmt.{digits}
use Rattle.geo_base.specs.Types.{Step}
use Rattle.geo_base.specs.Types.event
use Rattle.geo_base.specs.Types.fate
use Rattle.geo_base.specs.Types.line
use Rattle.geo_base.specs.Types.step
use Rattle.geo_base.specs.Types.targets
use Rattle.geo_base.specs.Client.{reconnect}
use Rattle.geo_base.specs.Forwarding.{receipt, reset, take_packet}
use Rattle.geo_base.specs.Getting.{get}
use Rattle.geo_base.specs.Going.{go}
use Rattle.geo_base.specs.Happening.{broker_does, broker_halts, client_does, happens, stops}
use Rattle.geo_base.specs.Markers.{snap}
use Rattle.geo_base.specs.Offering.{offer}
use Rattle.geo_base.specs.Planned.{planned}
use Rattle.geo_base.specs.Reading.{read}
use Rattle.geo_base.specs.Report.{report_lines}
use Rattle.geo_base.specs.Run.{all_limits, run, run_under, settled_world, steps}
use Rattle.geo_base.specs.Seeking.{restart, seek}
use Rattle.geo_base.specs.Serving.{drop_client, serve}
use Rattle.geo_base.specs.Setup.{Setup}

setup : Setup
setup = record {
  per_ledger = 50000;
  clusters = ((codes "a") ∷ (codes "b") ∷ []);
  topics = ((codes "t") ∷ []);
  clients =
      record {
        name = (codes "p");
        topic = 0;
        cluster = 0;
        lines =
            line.Produce ∷
            line.Pub 0 targets.All None (codes "hi") ∷ [];
      } ∷
      [];
}

schedule : List Step
schedule =
    step.Plain (event.Reconnect 0) ∷
    step.Plain (event.Serve 0 0) ∷
    step.Plain (event.Go 0) ∷
    step.Plain (event.Serve 0 0) ∷
    step.Plain (event.Go 0) ∷
    step.Plain (event.Serve 0 0) ∷
    step.Plain (event.Reset 0 0 1) ∷
    step.Plain (event.Take 0 0 1 fate.Good) ∷
    step.Plain (event.Receipt 0 0 1 fate.Good) ∷
    step.Plain (event.Read 0 0 1) ∷
    step.Plain (event.Take 0 0 1 fate.Twice) ∷
    step.Plain (event.Receipt 0 0 1 fate.Good) ∷
    step.Plain (event.Receipt 0 0 1 fate.Good) ∷
    []

shown : List (List ℕ)
shown =
    (codes "events 13 idle 0 rounds 0") ∷
    (codes "topic t at a") ∷
    (codes "entry 0:0 a p 0 * data - hi") ∷
    (codes "sender b session 1 open mark 1") ∷
    (codes "topic t at b") ∷
    (codes "entry 0:0 a p 0 * data - hi") ∷
    (codes "sender a session 0 closed mark 0") ∷
    (codes "client p at a lines 2/2 receipts 0 duplicates 0 errors 0") ∷
    []

reported : report_lines setup (run setup schedule) ≡ shown
unfolding setup schedule shown digits go get reconnect serve drop_client reset take_packet receipt read snap offer seek restart planned broker_does broker_halts client_does happens stops settled_world steps report_lines
reported = refl

sent : (run_under all_limits setup schedule).world.frame_bytes ≡ 301
unfolding setup schedule shown digits go get reconnect serve drop_client reset take_packet receipt read snap offer seek restart planned broker_does broker_halts client_does happens stops settled_world steps report_lines
sent = refl
