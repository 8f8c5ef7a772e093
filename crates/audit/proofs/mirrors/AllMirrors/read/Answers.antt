use Rattle.std.proofs.Common.{◌≡◌, ◌∙◌, ap, subst, sym}
use Rattle.std.specs.Prelude.{None, Option, OnOk, Some, option_map}
use Rattle.geo_base.specs.Setup.{Setup}
use Rattle.geo_base.specs.TraceItems.{Item}
use Rattle.trace_lines.specs.Lines.{item_read}
use Rattle.trace_lines.specs.Names.{DeclaredNames}
use Rattle.trace_lines.specs.Said.{item_said}
use Rattle.audit.specs.AuditOf.{item_refused, names_of, told_if}
use Rattle.audit.proofs.LineNumbers.{item_numbers}
use Rattle.audit.proofs.mirrors.AllMirrors.read.Goals as goal

pub take-requires-clause-numbers : goal.take-requires-clause-numbers
take-requires-clause-numbers c =
    let s : Setup = c.args.scenario.now.setup in
    let read : item_read (names_of s) c.args.line.now ≡ Some (item_said c.in-Some-2.line) =
    ap (λ (d : DeclaredNames). item_read d c.args.line.now) (sym c.requires.names) ∙ (sym c.in_ok-line.ensures ∙ ap (option_map item_said) c.in-Some-2.is) in
    item_numbers s c.args.line.now (item_said c.in-Some-2.line) read

pub returns-in-Some-clause-told : goal.returns-in-Some-clause-told
returns-in-Some-clause-told c =
    rw (c.in-Some.ensures.found c.args.names.now) (c.begin_next.ensures.told c.args.scenario.now.setup)

pub returns-clause-accepted : goal.returns-clause-accepted
returns-clause-accepted c =
    let s : Setup = c.args.scenario.now.setup in
    let read : Some (item_said c.in-Some-2.line) ≡ item_read c.args.names.now c.args.line.now = sym (ap (option_map item_said) c.in-Some-2.is) ∙ c.in_ok-line.ensures in
    subst (λ (o : Option Item). OnOk c.take.result (item_refused c.args.strictness s c.args.self.now o ≡ None)) read c.take.ensures.accepted

pub returns-clause-told : goal.returns-clause-told
returns-clause-told c =
    let s : Setup = c.args.scenario.now.setup in
    let read : Some (item_said c.in-Some-2.line) ≡ item_read c.args.names.now c.args.line.now = sym (ap (option_map item_said) c.in-Some-2.is) ∙ c.in_ok-line.ensures in
    subst (λ (o : Option Item). OnOk c.take.result (c.take.new.self ≡ told_if s c.args.self.now o)) read c.take.ensures.told

pub returns-clause-rule : goal.returns-clause-rule
returns-clause-rule c = λ event rule is.
    let s : Setup = c.args.scenario.now.setup in
    let read : Some (item_said c.in-Some-2.line) ≡ item_read c.args.names.now c.args.line.now = sym (ap (option_map item_said) c.in-Some-2.is) ∙ c.in_ok-line.ensures in
    subst (λ (o : Option Item). item_refused c.args.strictness s c.args.self.now o ≡ Some rule) read (c.take.ensures.rule event rule is)
