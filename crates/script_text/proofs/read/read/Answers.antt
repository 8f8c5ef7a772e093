use Rattle.std.proofs.Common.{List, subst}
use Rattle.script_text.specs.Drafts.{Answers}
use Rattle.script_text.specs.Lines.{TextLine}
use Rattle.script_text.specs.Rules.{script_from}
use Rattle.script_text.specs.Script.{no_line}
use Rattle.script_text.proofs.read.read.Goals as goal

pub returns-clause-answers : goal.returns-clause-answers
returns-clause-answers c =
    subst (λ (ls : List TextLine). Answers c.read_lines.result (script_from 1 no_line ls)) c.new-lines.ensures c.read_lines.ensures.answers
