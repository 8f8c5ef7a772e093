use Rattle.std.proofs.Common.{◌≡◌, ◌≤◌, ◌+◌, ◌∙◌, ℕ, ap, refl, rules, subst, sym, arith}
use Rattle.std.specs.Prelude.{None, Option, Some}
use Rattle.std.proofs.lemmas.Grind.{common_steps}
use Rattle.audit.specs.AuditOf.{names_of}
use Rattle.geo_base.specs.Setup.{Setup}
use Rattle.observe.specs.Topics.{entries_in}
use Rattle.trace_lines.specs.Names.{DeclaredNames}
use Rattle.observed_text.specs.declared.line.Line.{Line}
use Rattle.observed_text.specs.Lines.{line_said}
use Rattle.observed_text.specs.Observing.{SoFar, refused, taken}
use Rattle.observed_text.specs.Sizes.{IsSized}
use Rattle.observed_text.proofs.Counts.{taken_count}
use Rattle.observed_text.proofs.Numbers.{line_numbers}
use Rattle.observed_text.proofs.Sizes.{taken_sized}
use Rattle.observed_text.proofs.so_far.LinesSoFar.read.Goals as goal

pub returns-in_default-clause-refused : goal.returns-in_default-clause-refused
returns-in_default-clause-refused c =
    let s : Setup = c.args.scenario.now.setup in let r : SoFar = c.args.self.now in
    let none : line_said (names_of s) c.args.line.now ≡ None =
    (let said = c.in_ok-line.ensures in let names = c.requires.names in first_of (cc, search rules, grind (arith, common_steps))) in
    subst (λ (o : Option Line). Some 1 ≡ refused s r o) (sym none) refl

pub line_refused-requires-clause-numbers : goal.line_refused-requires-clause-numbers
line_refused-requires-clause-numbers c =
    let s : Setup = c.args.scenario.now.setup in
    let said : line_said (names_of s) c.args.line.now ≡ Some c.in-Some.line =
    ap (λ (d : DeclaredNames). line_said d c.args.line.now) (sym c.requires.names) ∙ (sym c.in_ok-line.ensures ∙ c.in-Some.is) in
    line_numbers s c.args.line.now c.in-Some.line said

pub take-requires-clause-numbers : goal.take-requires-clause-numbers
take-requires-clause-numbers c =
    let s : Setup = c.args.scenario.now.setup in
    let said : line_said (names_of s) c.args.line.now ≡ Some c.in-Some.line =
    ap (λ (d : DeclaredNames). line_said d c.args.line.now) (sym c.requires.names) ∙ (sym c.in_ok-line.ensures ∙ c.in-Some.is) in
    line_numbers s c.args.line.now c.in-Some.line said

pub returns-in_ok-take-in-None-clause-refused : goal.returns-in_ok-take-in-None-clause-refused
returns-in_ok-take-in-None-clause-refused c =
    let s : Setup = c.args.scenario.now.setup in let r : SoFar = c.args.self.now in
    let said : line_said (names_of s) c.args.line.now ≡ Some c.in-Some.line =
    ap (λ (d : DeclaredNames). line_said d c.args.line.now) (sym c.requires.names) ∙ (sym c.in_ok-line.ensures ∙ c.in-Some.is) in
    let nothing : Option ℕ = None in
    subst (λ (o : Option Line). nothing ≡ refused s r o) (sym said) (sym c.in-None.is ∙ c.line_refused.ensures)

pub returns-in_ok-take-in-None-clause-taken : goal.returns-in_ok-take-in-None-clause-taken
returns-in_ok-take-in-None-clause-taken c = λ none.
    let s : Setup = c.args.scenario.now.setup in let r : SoFar = c.args.self.now in let q : SoFar = c.take.new.self in
    let said : line_said (names_of s) c.args.line.now ≡ Some c.in-Some.line =
    ap (λ (d : DeclaredNames). line_said d c.args.line.now) (sym c.requires.names) ∙ (sym c.in_ok-line.ensures ∙ c.in-Some.is) in
    subst (λ (o : Option Line). q ≡ taken s r o) (sym said) c.in_ok-take-in-None.ensures

pub returns-in_ok-take-in-None-clause-sized : goal.returns-in_ok-take-in-None-clause-sized
returns-in_ok-take-in-None-clause-sized c = λ none.
    let s : Setup = c.args.scenario.now.setup in let r : SoFar = c.args.self.now in
    let said : line_said (names_of s) c.args.line.now ≡ Some c.in-Some.line =
    ap (λ (d : DeclaredNames). line_said d c.args.line.now) (sym c.requires.names) ∙ (sym c.in_ok-line.ensures ∙ c.in-Some.is) in
    subst (IsSized s) (sym c.in_ok-take-in-None.ensures) (taken_sized s r c.in-Some.line c.requires.sized (line_numbers s c.args.line.now c.in-Some.line said))

pub returns-in_ok-take-in-None-clause-few : goal.returns-in_ok-take-in-None-clause-few
returns-in_ok-take-in-None-clause-few c = λ none.
    let s : Setup = c.args.scenario.now.setup in let r : SoFar = c.args.self.now in
    subst (λ (q : SoFar). entries_in q.seen.topics ≤ entries_in r.seen.topics + 1) (sym c.in_ok-take-in-None.ensures) (taken_count s r c.in-Some.line)

pub returns-in-Some-line_refused-clause-refused : goal.returns-in-Some-line_refused-clause-refused
returns-in-Some-line_refused-clause-refused c =
    let s : Setup = c.args.scenario.now.setup in let r : SoFar = c.args.self.now in
    let said : line_said (names_of s) c.args.line.now ≡ Some c.in-Some.line =
    ap (λ (d : DeclaredNames). line_said d c.args.line.now) (sym c.requires.names) ∙ (sym c.in_ok-line.ensures ∙ c.in-Some.is) in
    subst (λ (o : Option Line). Some c.in-Some-line_refused.rule ≡ refused s r o) (sym said) (sym c.in-Some-line_refused.is ∙ c.line_refused.ensures)
