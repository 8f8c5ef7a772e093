use Rattle.std.proofs.Common.{ap, ◌++◌, ◌∙◌}
use Rattle.live_output.proofs.Outputs.{text_is}
use Rattle.live_output.proofs.output.written.Goals as goal

pub returns-clause-text : goal.returns-clause-text
returns-clause-text c =
    text_is c.args.scenario.now c.args.played.now.steps c.args.played.now.world c.in_ok-text.text c.append.new.self c.in_ok-schedule.schedule c.append-2.new.self
    c.requires c.in_ok-text.ensures c.in_ok-append.ensures.ok c.in_ok-schedule.ensures.text
    (c.in_ok-append-2.ensures.ok ∙ ap (λ bytes. c.append.new.self ++ bytes) c.as_slice.ensures)
