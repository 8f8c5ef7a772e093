-- The run shared_one_and_two, computed: the definitions give its report. Written by tools/computed_runs.py.
use Rattle.std.specs.Prelude.{◌≡◌, ℕ, ◌∷◌, [], List, true, false, None, codes, refl}
use Rattle.std.specs.Fmt.{digits}
use Rattle.geo_base.specs.Types.{Step}
use Rattle.geo_base.specs.Types.event
use Rattle.geo_base.specs.Types.line
use Rattle.geo_base.specs.Types.step
use Rattle.geo_base.specs.Types.sub_kind
use Rattle.geo_base.specs.Types.targets
use Rattle.geo_base.specs.Client.{reconnect}
use Rattle.geo_base.specs.Forwarding.{receipt, reset, take_packet}
use Rattle.geo_base.specs.Getting.{get}
use Rattle.geo_base.specs.Going.{go}
use Rattle.geo_base.specs.Happening.{broker_does, broker_halts, client_does, happens, stops}
use Rattle.geo_base.specs.Markers.{snap}
use Rattle.geo_base.specs.Offering.{offer}
use Rattle.geo_base.specs.Planned.{planned}
use Rattle.geo_base.specs.Reading.{read}
use Rattle.geo_base.specs.Report.{report_lines}
use Rattle.geo_base.specs.Run.{all_limits, run, run_under, settled_world, steps}
use Rattle.geo_base.specs.Seeking.{restart, seek}
use Rattle.geo_base.specs.Serving.{drop_client, serve}
use Rattle.geo_base.specs.Setup.{Setup}

setup : Setup
setup = record {
  per_ledger = 50000;
  clusters = ((codes "a") ∷ (codes "b") ∷ []);
  topics = ((codes "t") ∷ []);
  clients =
      record {
        name = (codes "p");
        topic = 0;
        cluster = 0;
        lines =
            line.Produce ∷
            line.Pub 0 targets.All None (codes "m") ∷
            line.Pub 1 targets.All None (codes "m") ∷
            line.Pub 2 targets.All None (codes "m") ∷
            line.Pub 3 targets.All None (codes "m") ∷ [];
      } ∷
      record {
        name = (codes "c");
        topic = 0;
        cluster = 0;
        lines =
            line.Sub (codes "s") sub_kind.Shared true false ∷
            line.Flow 1 ∷ [];
      } ∷
      record {
        name = (codes "d");
        topic = 0;
        cluster = 0;
        lines =
            line.Sub (codes "s") sub_kind.Shared true false ∷
            line.Flow 2 ∷ [];
      } ∷
      [];
}

schedule : List Step
schedule =
    step.Plain (event.Reconnect 0) ∷
    step.Plain (event.Serve 0 0) ∷
    step.Plain (event.Go 0) ∷
    step.Plain (event.Serve 0 0) ∷
    step.Plain (event.Go 0) ∷
    step.Plain (event.Serve 0 0) ∷
    step.Plain (event.Go 0) ∷
    step.Plain (event.Serve 0 0) ∷
    step.Plain (event.Go 0) ∷
    step.Plain (event.Serve 0 0) ∷
    step.Plain (event.Go 0) ∷
    step.Plain (event.Serve 0 0) ∷
    step.Plain (event.Reconnect 1) ∷
    step.Plain (event.Serve 0 1) ∷
    step.Plain (event.Go 1) ∷
    step.Plain (event.Serve 0 1) ∷
    step.Plain (event.Go 1) ∷
    step.Plain (event.Serve 0 1) ∷
    step.Plain (event.Reconnect 2) ∷
    step.Plain (event.Serve 0 2) ∷
    step.Plain (event.Go 2) ∷
    step.Plain (event.Serve 0 2) ∷
    step.Plain (event.Go 2) ∷
    step.Plain (event.Serve 0 2) ∷
    step.Plain (event.Offer 0 0 0) ∷
    step.Plain (event.Offer 0 0 0) ∷
    step.Plain (event.Offer 0 0 0) ∷
    step.Plain (event.Offer 0 0 0) ∷
    step.Plain (event.Offer 0 0 0) ∷
    step.Plain (event.Get 1) ∷
    step.Plain (event.Get 2) ∷
    step.Plain (event.Get 1) ∷
    step.Plain (event.Get 2) ∷
    step.Plain (event.Get 1) ∷
    step.Plain (event.Get 2) ∷
    step.Plain (event.Get 1) ∷
    step.Plain (event.Get 2) ∷
    step.Plain (event.Get 1) ∷
    step.Plain (event.Get 2) ∷
    step.Plain (event.Get 1) ∷
    step.Plain (event.Get 2) ∷
    []

shown : List (List ℕ)
shown =
    (codes "events 34 idle 7 rounds 0") ∷
    (codes "topic t at a") ∷
    (codes "entry 0:0 a p 0 * data - m") ∷
    (codes "entry 0:1 a p 1 * data - m") ∷
    (codes "entry 0:2 a p 2 * data - m") ∷
    (codes "entry 0:3 a p 3 * data - m") ∷
    (codes "sender b session 0 closed mark 0") ∷
    (codes "sub s shared local mark 0 backlog 4") ∷
    (codes "topic t at b") ∷
    (codes "sender a session 0 closed mark 0") ∷
    (codes "client p at a lines 5/5 receipts 0 duplicates 0 errors 0") ∷
    (codes "client c at a lines 2/2 receipts 0 duplicates 0 errors 0") ∷
    (codes "got a p 0") ∷
    (codes "client d at a lines 2/2 receipts 0 duplicates 0 errors 0") ∷
    (codes "got a p 1") ∷
    (codes "got a p 2") ∷
    []

reported : report_lines setup (run setup schedule) ≡ shown
unfolding setup schedule shown digits go get reconnect serve drop_client reset take_packet receipt read snap offer seek restart planned broker_does broker_halts client_does happens stops settled_world steps report_lines
reported = refl

sent : (run_under all_limits setup schedule).world.frame_bytes ≡ 610
unfolding setup schedule shown digits go get reconnect serve drop_client reset take_packet receipt read snap offer seek restart planned broker_does broker_halts client_does happens stops settled_world steps report_lines
sent = refl
