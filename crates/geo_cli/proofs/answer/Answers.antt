use Rattle.std.proofs.Common.{List, ℕ}
use Rattle.std.specs.Io.KnownBytes.{Appends, Consumes}
use Rattle.geo_io.specs.Source.{Follows}
use Rattle.geo_top.specs.Commands.{command_of, run_command}
use Rattle.geo_live.proofs.Commands.{not_live}
use Rattle.geo_live.proofs.Headline.{did_run}
use Rattle.geo_cli.proofs.answer.Goals as goal

pub returns : goal.returns
returns g c = λ ok run.
    let old = c.args.source.now in
    let new = c.geo_main.new.source in
    let before = c.args.sink.now in
    let after = c.geo_main.new.sink in
    let a = c.geo_main.ensures.alone (not_live c.args.words.now run_command run) in
    let d = did_run (command_of c.args.words.now) (λ (bytes : List ℕ). Follows old.gave new.gave bytes × Consumes old.left new.left bytes)
    (λ (bytes : List ℕ). Follows before.took after.took bytes × Appends before.contents after.contents bytes) old.left old.faults new.faults c.geo_main.result a.0 a.1
    (record { source = old.faults; source_now = new.faults; sink = before.faults; sink_now = after.faults }) a.2 a.3 a.5 ok run in
    (a.0, a.1, d.0.0, d.1.0, d.2)
