use Rattle.std.specs.Prelude.{Some}
use Rattle.geo_top.proofs.Inputs.{at_error, large_wanting, none_wanting, part_wanting}
use Rattle.geo_top.specs.Commands.{run_command}
use Rattle.geo_live.proofs.Inputs.{failed_ready, large_ready, whole_ready}
use Rattle.geo_live.proofs.answering.answer_from.Goals as goal

pub returns-in_err-read_fault-clause-wanting : goal.returns-in_err-read_fault-clause-wanting
returns-in_err-read_fault-clause-wanting g c =
    at_error c.from_residual.result
    (none_wanting (Some run_command) (g.S.Source.given c.args.source.now c.args.source.now) (g.S.Source.left c.args.source.now) (g.S.Source.faults c.args.source.now)
    (g.met.S.Source.given_none c.args.source.now))

pub returns-in-Ok-clause-ready : goal.returns-in-Ok-clause-ready
returns-in-Ok-clause-ready g c =
    whole_ready (g.S.Source.given c.args.source.now c.read_all.new.source) (g.S.Source.left c.args.source.now) (g.S.Source.faults c.args.source.now)
    (g.S.Source.faults c.read_all.new.source) c.in-Ok.bytes c.answer_to.result c.in-Ok.ensures.given c.in-Ok.ensures.whole c.in-Ok.ensures.steady
    (rw c.as_slice.ensures at c.answer_to.ensures)

pub returns-in-Err-Failed-clause-ready : goal.returns-in-Err-Failed-clause-ready
returns-in-Err-Failed-clause-ready g c =
    failed_ready (g.S.Source.given c.args.source.now c.read_all.new.source) (g.S.Source.left c.args.source.now) (g.S.Source.left c.read_all.new.source)
    (g.S.Source.faults c.args.source.now) (g.S.Source.faults c.read_all.new.source) c.in_ok-read_fault.read_fault
    c.in-Err-Failed.ensures.rest (c.in-Err-Failed.ensures.cause (cc c.in-Err-Failed.field-0-is)) c.in_ok-read_fault.ensures

pub returns-in-Err-TooLong-clause-ready : goal.returns-in-Err-TooLong-clause-ready
returns-in-Err-TooLong-clause-ready g c =
    large_ready (g.S.Source.given c.args.source.now c.read_all.new.source) (g.S.Source.left c.args.source.now) (g.S.Source.left c.read_all.new.source)
    (g.S.Source.faults c.args.source.now) (g.S.Source.faults c.read_all.new.source) c.refusal-in-Err-TooLong.result
    (c.in-Err-TooLong.ensures.over (cc c.in-Err-TooLong.field-0-is)) (c.in-Err-TooLong.ensures.steady (λ failed. cc (failed, c.in-Err-TooLong.field-0-is))) c.refusal-in-Err-TooLong.ensures

pub returns-in-Err-TooLong-clause-wanting : goal.returns-in-Err-TooLong-clause-wanting
returns-in-Err-TooLong-clause-wanting g c =
    at_error c.refusal-in-Err-TooLong.result
    (large_wanting (Some run_command) (g.S.Source.given c.args.source.now c.read_all.new.source) (g.S.Source.left c.args.source.now) (g.S.Source.left c.read_all.new.source)
    (g.S.Source.faults c.args.source.now) (g.S.Source.faults c.read_all.new.source) (c.in-Err-TooLong.ensures.over (cc c.in-Err-TooLong.field-0-is)))

pub returns-in-Err-Memory-clause-wanting : goal.returns-in-Err-Memory-clause-wanting
returns-in-Err-Memory-clause-wanting g c =
    part_wanting (Some run_command) (g.S.Source.given c.args.source.now c.read_all.new.source) (g.S.Source.left c.args.source.now) (g.S.Source.left c.read_all.new.source)
    (g.S.Source.faults c.args.source.now) (g.S.Source.faults c.read_all.new.source) c.in-Err-Memory.ensures.rest
