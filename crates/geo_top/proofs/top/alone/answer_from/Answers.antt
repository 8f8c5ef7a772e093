use Rattle.std.proofs.Common.{sym, ◌∙◌}
use Rattle.geo_top.specs.Commands.{command_of}
use Rattle.geo_top.proofs.Inputs.{at_error, failed_ready, input_none, input_some, large_ready, large_wanting, none_ready, none_wanting, part_wanting, whole_ready}
use Rattle.geo_top.proofs.top.alone.answer_from.Goals as goal

pub returns-in_err-read_fault-clause-wanting : goal.returns-in_err-read_fault-clause-wanting
returns-in_err-read_fault-clause-wanting g c =
    at_error c.from_residual.result
    (none_wanting (command_of c.args.words.now) (g.S.Source.given c.args.source.now c.args.source.now) (g.S.Source.left c.args.source.now) (g.S.Source.faults c.args.source.now)
    (g.met.S.Source.given_none c.args.source.now))

pub returns-in-Ok-clause-ready : goal.returns-in-Ok-clause-ready
returns-in-Ok-clause-ready g c =
    whole_ready (command_of c.args.words.now) (g.S.Source.given c.args.source.now c.read_all.new.source) (g.S.Source.left c.args.source.now) (g.S.Source.faults c.args.source.now)
    (g.S.Source.faults c.read_all.new.source) c.in-Ok.bytes c.answer.result c.in-Ok.ensures.given c.in-Ok.ensures.whole c.in-Ok.ensures.steady
    c.answer.ensures.answered c.answer.ensures.made

-- words that have an input are not those that have none
pub returns-in-Ok-clause-unread : goal.returns-in-Ok-clause-unread
returns-in-Ok-clause-unread g c = λ unread. absurd (unread (input_some (command_of c.args.words.now) (sym c.has_input.ensures ∙ c.if-has_input.true)))

pub returns-in-Err-Failed-clause-unread : goal.returns-in-Err-Failed-clause-unread
returns-in-Err-Failed-clause-unread g c = λ unread. absurd (unread (input_some (command_of c.args.words.now) (sym c.has_input.ensures ∙ c.if-has_input.true)))

pub returns-in-Err-TooLong-clause-unread : goal.returns-in-Err-TooLong-clause-unread
returns-in-Err-TooLong-clause-unread g c = λ unread. absurd (unread (input_some (command_of c.args.words.now) (sym c.has_input.ensures ∙ c.if-has_input.true)))

pub returns-in-Err-Memory-clause-unread : goal.returns-in-Err-Memory-clause-unread
returns-in-Err-Memory-clause-unread g c = λ unread. absurd (unread (input_some (command_of c.args.words.now) (sym c.has_input.ensures ∙ c.if-has_input.true)))

pub returns-in-Err-Failed-clause-ready : goal.returns-in-Err-Failed-clause-ready
returns-in-Err-Failed-clause-ready g c =
    failed_ready (command_of c.args.words.now) (g.S.Source.given c.args.source.now c.read_all.new.source) (g.S.Source.left c.args.source.now) (g.S.Source.left c.read_all.new.source)
    (g.S.Source.faults c.args.source.now) (g.S.Source.faults c.read_all.new.source) c.in_ok-read_fault.read_fault
    (input_some (command_of c.args.words.now) (sym c.has_input.ensures ∙ c.if-has_input.true)) c.in-Err-Failed.ensures.rest (c.in-Err-Failed.ensures.cause (cc c.in-Err-Failed.field-0-is)) c.in_ok-read_fault.ensures

pub returns-in-Err-TooLong-clause-ready : goal.returns-in-Err-TooLong-clause-ready
returns-in-Err-TooLong-clause-ready g c =
    large_ready (command_of c.args.words.now) (g.S.Source.given c.args.source.now c.read_all.new.source) (g.S.Source.left c.args.source.now) (g.S.Source.left c.read_all.new.source)
    (g.S.Source.faults c.args.source.now) (g.S.Source.faults c.read_all.new.source) c.refusal-in-Err-TooLong.result (input_some (command_of c.args.words.now) (sym c.has_input.ensures ∙ c.if-has_input.true))
    (c.in-Err-TooLong.ensures.over (cc c.in-Err-TooLong.field-0-is)) (c.in-Err-TooLong.ensures.steady (λ failed. cc (failed, c.in-Err-TooLong.field-0-is))) c.refusal-in-Err-TooLong.ensures

pub returns-in-Err-TooLong-clause-wanting : goal.returns-in-Err-TooLong-clause-wanting
returns-in-Err-TooLong-clause-wanting g c =
    at_error c.refusal-in-Err-TooLong.result
    (large_wanting (command_of c.args.words.now) (g.S.Source.given c.args.source.now c.read_all.new.source) (g.S.Source.left c.args.source.now) (g.S.Source.left c.read_all.new.source)
    (g.S.Source.faults c.args.source.now) (g.S.Source.faults c.read_all.new.source) (c.in-Err-TooLong.ensures.over (cc c.in-Err-TooLong.field-0-is)))

pub returns-in-Err-Memory-clause-wanting : goal.returns-in-Err-Memory-clause-wanting
returns-in-Err-Memory-clause-wanting g c =
    part_wanting (command_of c.args.words.now) (g.S.Source.given c.args.source.now c.read_all.new.source) (g.S.Source.left c.args.source.now) (g.S.Source.left c.read_all.new.source)
    (g.S.Source.faults c.args.source.now) (g.S.Source.faults c.read_all.new.source) c.in-Err-Memory.ensures.rest

pub returns-else-has_input-clause-ready : goal.returns-else-has_input-clause-ready
returns-else-has_input-clause-ready g c =
    none_ready (command_of c.args.words.now) (g.S.Source.given c.args.source.now c.args.source.now) (g.S.Source.left c.args.source.now) (g.S.Source.faults c.args.source.now)
    c.answer-else-has_input.result (input_none (command_of c.args.words.now) (sym c.has_input.ensures ∙ c.if-has_input.false)) (g.met.S.Source.given_none c.args.source.now)
    (rw c.new.ensures at c.answer-else-has_input.ensures.answered) c.answer-else-has_input.ensures.made
