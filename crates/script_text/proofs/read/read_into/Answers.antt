use Rattle.std.proofs.Common.{Result, subst, sym}
use Rattle.script_text.specs.Drafts.{Answers}
use Rattle.script_text.specs.Script.{Fault, Script}
use Rattle.script_text.proofs.read.read_into.Goals as goal

pub returns-in-Ok-clause-answers : goal.returns-in-Ok-clause-answers
returns-in-Ok-clause-answers c =
    subst (λ (m : Result Script Fault). Answers c.read_after.result m) (sym c.in-Ok.ensures.goes) c.read_after.ensures.answers
