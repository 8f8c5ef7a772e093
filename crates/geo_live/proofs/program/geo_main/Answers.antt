use Rattle.std.proofs.Common.{sym, ◌∙◌}
use Rattle.geo_top.specs.Commands.{command_of, run_command}
use Rattle.geo_live.proofs.Commands.{not_both}
use Rattle.geo_live.proofs.Headline.{told_once, told_report, told_safe, told_settled}
use Rattle.geo_live.proofs.program.geo_main.Goals as goal

-- the words of `live` are not those of `run`
pub returns-in-Some-clause-report : goal.returns-in-Some-clause-report
returns-in-Some-clause-report g c = λ ok run. absurd (not_both c.args.words.now run_command c.in-Some.asked run (sym c.read.ensures.asked ∙ c.in-Some.is))

pub returns-in-Some-clause-once : goal.returns-in-Some-clause-once
returns-in-Some-clause-once g c = λ ok run. absurd (not_both c.args.words.now run_command c.in-Some.asked run (sym c.read.ensures.asked ∙ c.in-Some.is))

pub returns-in-Some-clause-safe : goal.returns-in-Some-clause-safe
returns-in-Some-clause-safe g c = λ ok run. absurd (not_both c.args.words.now run_command c.in-Some.asked run (sym c.read.ensures.asked ∙ c.in-Some.is))

pub returns-in-Some-clause-settled : goal.returns-in-Some-clause-settled
returns-in-Some-clause-settled g c = λ ok run. absurd (not_both c.args.words.now run_command c.in-Some.asked run (sym c.read.ensures.asked ∙ c.in-Some.is))

-- and what is answered to those holds of the script that the source gave
pub returns-in-None-clause-report : goal.returns-in-None-clause-report
returns-in-None-clause-report g c =
    let a = c.geo_alone.ensures.answered in
    told_report (command_of c.args.words.now) (g.S.Source.given c.args.source.now c.geo_alone.new.source) (g.K.Sink.taken c.args.sink.now c.geo_alone.new.sink)
    (g.S.Source.left c.args.source.now) (g.S.Source.faults c.args.source.now) (g.S.Source.faults c.geo_alone.new.source) c.geo_alone.result a.0 a.1 (record {
      source = g.S.Source.faults c.args.source.now;
      source_now = g.S.Source.faults c.geo_alone.new.source;
      sink = g.K.Sink.faults c.args.sink.now;
      sink_now = g.K.Sink.faults c.geo_alone.new.sink;
    }) a.2 a.3 a.5

pub returns-in-None-clause-once : goal.returns-in-None-clause-once
returns-in-None-clause-once g c =
    let a = c.geo_alone.ensures.answered in
    told_once (command_of c.args.words.now) (g.S.Source.given c.args.source.now c.geo_alone.new.source) (g.K.Sink.taken c.args.sink.now c.geo_alone.new.sink)
    (g.S.Source.left c.args.source.now) (g.S.Source.faults c.args.source.now) (g.S.Source.faults c.geo_alone.new.source) c.geo_alone.result a.0 a.1 (record {
      source = g.S.Source.faults c.args.source.now;
      source_now = g.S.Source.faults c.geo_alone.new.source;
      sink = g.K.Sink.faults c.args.sink.now;
      sink_now = g.K.Sink.faults c.geo_alone.new.sink;
    }) a.2 a.3 a.5

pub returns-in-None-clause-safe : goal.returns-in-None-clause-safe
returns-in-None-clause-safe g c =
    let a = c.geo_alone.ensures.answered in
    told_safe (command_of c.args.words.now) (g.S.Source.given c.args.source.now c.geo_alone.new.source) (g.K.Sink.taken c.args.sink.now c.geo_alone.new.sink)
    (g.S.Source.left c.args.source.now) (g.S.Source.faults c.args.source.now) (g.S.Source.faults c.geo_alone.new.source) c.geo_alone.result a.0 a.1 (record {
      source = g.S.Source.faults c.args.source.now;
      source_now = g.S.Source.faults c.geo_alone.new.source;
      sink = g.K.Sink.faults c.args.sink.now;
      sink_now = g.K.Sink.faults c.geo_alone.new.sink;
    }) a.2 a.3 a.5

pub returns-in-None-clause-settled : goal.returns-in-None-clause-settled
returns-in-None-clause-settled g c =
    let a = c.geo_alone.ensures.answered in
    told_settled (command_of c.args.words.now) (g.S.Source.given c.args.source.now c.geo_alone.new.source) (g.K.Sink.taken c.args.sink.now c.geo_alone.new.sink)
    (g.S.Source.left c.args.source.now) (g.S.Source.faults c.args.source.now) (g.S.Source.faults c.geo_alone.new.source) c.geo_alone.result a.0 a.1 (record {
      source = g.S.Source.faults c.args.source.now;
      source_now = g.S.Source.faults c.geo_alone.new.source;
      sink = g.K.Sink.faults c.args.sink.now;
      sink_now = g.K.Sink.faults c.geo_alone.new.sink;
    }) a.2 a.3 a.5
