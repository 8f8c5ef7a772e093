use Rattle.std.proofs.Common.{[], refl, take}
use Rattle.geo_io.specs.Sink.{Gains-none}
use Rattle.geo_top.proofs.Inputs.{read_still}
use Rattle.geo_top.specs.Commands.{run_command}
use Rattle.std.specs.Prelude.{Some}
use Rattle.geo_live.proofs.LiveAnswers.{wanting, write_failed}
use Rattle.geo_live.proofs.program.run_live.Goals as goal

pub returns-in_default : goal.returns-in_default
returns-in_default g c =
    let w = c.in_default.ensures.wanting in (
      w.0,
      [],
      w.1,
      g.met.K.Sink.taken_none c.args.sink.now,
      Gains-none (g.K.Sink.held c.args.sink.now),
      wanting w.0 (record {
        source = g.S.Source.faults c.args.source.now;
        source_now = g.S.Source.faults c.answer_from.new.source;
        sink = g.K.Sink.faults c.args.sink.now;
        sink_now = g.K.Sink.faults c.args.sink.now;
      }) c.in_default.ensures.memory refl,
    )

pub returns-in-Ok-write_all : goal.returns-in-Ok-write_all
returns-in-Ok-write_all g c =
    let r = c.in-Ok.ensures.ready in (
      r.0,
      c.in-Ok.answer.bytes,
      r.1,
      rw c.as_slice.ensures at c.in-Ok-write_all.ensures.taken,
      rw c.as_slice.ensures at c.in-Ok-write_all.ensures.whole,
      r.2.answered (g.K.Sink.faults c.args.sink.now) (g.K.Sink.faults c.write_all.new.sink),
    )

pub returns : goal.returns
returns g c =
    let r = c.in-Ok.ensures.ready in (
      r.0,
      take c.in-Err.field-0.out c.in-Ok.answer.bytes,
      read_still (Some run_command) (g.S.Source.given c.args.source.now c.answer_from.new.source) (g.S.Source.left c.args.source.now)
          (g.S.Source.faults c.args.source.now) (g.S.Source.faults c.answer_from.new.source) c.in-Ok.answer.status r.0 r.2.sent r.1,
      rw c.as_slice.ensures at c.in-Err.ensures.handed,
      rw c.as_slice.ensures at c.in-Err.ensures.part,
      write_failed r.0 (g.S.Source.faults c.args.source.now) (g.S.Source.faults c.answer_from.new.source) (g.K.Sink.faults c.args.sink.now)
          (g.K.Sink.faults c.write_all.new.sink) c.in-Err.field-0.out c.in-Ok.answer r.2 c.in-Err.ensures.cause,
    )
