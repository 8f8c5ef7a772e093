use Rattle.std.proofs.Common.{List, subst}
use Rattle.script_text.specs.Drafts.{Answers, so_far}
use Rattle.script_text.specs.Lines.{TextLine}
use Rattle.script_text.specs.Rules.{script_from}
use Rattle.script_text.specs.Script.{Declarations}
use Rattle.script_text.proofs.read.read_after.Goals as goal

pub returns-in-Ok-clause-answers : goal.returns-in-Ok-clause-answers
returns-in-Ok-clause-answers c =
    subst (λ (d : Declarations). Answers c.read_rest.result (script_from c.args.number (so_far d) c.args.lines.now)) c.in-Ok.ensures.declared (subst (λ (ls : List TextLine). Answers c.read_rest.result (script_from c.args.number (so_far c.in-Ok.declared) ls)) c.copied.ensures c.read_rest.ensures.answers)
