use Rattle.std.proofs.Common.{Result, subst, sym}
use Rattle.script_text.specs.Drafts.{Takes}
use Rattle.script_text.specs.Rules.{script_with}
use Rattle.script_text.specs.Script.{Fault, Script, SoFar}
use Rattle.script_text.proofs.Accepted.{completed_is}
use Rattle.script_text.proofs.declarations.Declarations.read_all.Goals as goal

pub returns-clause-takes : goal.returns-clause-takes
returns-clause-takes c =
    let all : SoFar = record { declared = c.args.self.now; steps = c.read_steps.new.steps } in
    subst (λ (m : Result Script Fault). Takes c.complete.result (script_with all) m) (sym c.in_ok-end.ensures.goes) (c.complete.ensures.takes c.read_steps.new.steps)

pub returns-clause-known : goal.returns-clause-known
returns-clause-known c =
    completed_is c.complete.result c.args.self.now c.read_steps.new.steps c.complete.ensures.known c.requires.clients c.requires.chance c.in_ok-end.ensures.known
